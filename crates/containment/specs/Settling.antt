-- What the passes over the marks of a trail do. Assumes nothing.
use Rattle.std.specs.Prelude.{◌≡◌, ℕ, ◌<◌, ◌≤◌, cond, ◌⊎◌, List, ◌==◌, slice_index}
use Rattle.history.specs.History.{Commit, Parent, Reaches}

-- some parent of the commit has the mark 2
abbrev pub Leads : List Commit → List ℕ → ℕ → Type 0
Leads h marks number = (p : ℕ) × Parent h number p × (slice_index marks p ≡ 2)

-- the marks lose no way to the target
abbrev pub Keeps : List Commit → ℕ → List ℕ → Type 0
Keeps h target marks = (a p : ℕ) → slice_index marks a ≡ 1 → Parent h a p → Reaches h p target → slice_index marks p ≡ 1

-- below n the marks of the commits that reach the target are 2, and all others are as they were
pub record Settled (h : List Commit) (target n : ℕ) (marks marks' : List ℕ) : Type 0 where
  pub only : (k : ℕ) → slice_index marks' k ≡ 2 → (slice_index marks k ≡ 1) × Reaches h k target
  pub all : Keeps h target marks → (k : ℕ) → k < n → slice_index marks k ≡ 1 → Reaches h k target → slice_index marks' k ≡ 2
  pub else : (k : ℕ) → (slice_index marks' k ≡ 2) ⊎ (slice_index marks' k ≡ slice_index marks k)
  pub above : (k : ℕ) → n ≤ k → slice_index marks' k ≡ slice_index marks k

-- the result that a settled mark tells
abbrev pub told : ℕ → ℕ
told mark = cond (mark == 2) 1 0

-- the mark before it was settled
abbrev pub restored : ℕ → ℕ
restored mark = cond (mark == 2) 1 mark
