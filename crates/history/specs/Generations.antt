-- Topological levels and corrected commit dates. Assumes nothing.
use Rattle.std.specs.Prelude.{◌≡◌, ℕ, ◌+◌, ◌≤◌, max, List}
use Rattle.history.specs.History.{Commit, commit_of, Chain}
use Rattle.history.specs.Labels.{labels_of}

-- a commit's value is at least one more than each parent's
abbrev pub above : ℕ → ℕ → ℕ
above x p = max x (p + 1)

-- the corrected date of a commit without parents
abbrev pub root_date : ℕ → ℕ
root_date date = date

-- level: 1 without parents, else one more than the parents' greatest level
abbrev pub levels_of : List Commit → List ℕ
levels_of h = labels_of (λ _ _. 1) above h

-- corrected date: the date without parents, else the greater of the date and one more than the parents' greatest corrected date
abbrev pub corrected_of : List Commit → List ℕ
corrected_of h = labels_of (λ _ date. root_date date) above h

-- v is the greatest sum of a chain's steps and what f gives its end, over the chains from a
pub record Greatest (h : List Commit) (f : Commit → ℕ) (a v : ℕ) : Type 0 where
  pub attained : (b : ℕ) × (k : ℕ) × Chain h a b k × (v ≡ f (commit_of h b) + k)
  pub bounds : (b k : ℕ) → Chain h a b k → f (commit_of h b) + k ≤ v

-- a level counts the commits of the longest chain of parents from a commit
abbrev pub Level : List Commit → ℕ → ℕ → Type 0
Level h a v = Greatest h (λ _. 1) a v

-- a corrected date is the latest date of an ancestor, moved by the steps to it
abbrev pub CorrectedDate : List Commit → ℕ → ℕ → Type 0
CorrectedDate h a v = Greatest h (λ c. root_date c.date) a v
