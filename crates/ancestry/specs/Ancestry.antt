-- How far two lines have parted, and the commits that a merge of them starts from. Assumes nothing.
use Rattle.std.specs.Prelude.{◌≡◌, ℕ, ◌<◌, ◌≤◌, List, ◌++◌, length, take, drop, slice_index}
use Rattle.history.specs.Counting.{Tally}
use Rattle.history.specs.History.{Commit, Reaches}

-- k is an ancestor of a, and none of b
abbrev pub Ahead : List Commit → ℕ → ℕ → ℕ → Type 0
Ahead h a b k = Reaches h a k × (Reaches h b k → ⊥)

-- so many ancestors has each of two commits that the other has not
pub record Parted (h : List Commit) (a b m n : ℕ) : Type 0 where
  pub ahead : Tally (Ahead h a b) (length h) 0 m
  pub behind : Tally (Ahead h b a) (length h) 0 n

-- k is an ancestor of both
abbrev pub Common : List Commit → ℕ → ℕ → ℕ → Type 0
Common h a b k = Reaches h a k × Reaches h b k

-- k is a common ancestor that no other common ancestor reaches
pub record MergeBase (h : List Commit) (a b k : ℕ) : Type 0 where
  pub common : Common h a b k
  pub best : (d : ℕ) → Common h a b d → Reaches h d k → d ≡ k

-- the list holds the merge bases that are numbered `low` or higher, in falling number
pub record Bases (h : List Commit) (a b low : ℕ) (list : List ℕ) : Type 0 where
  pub falling : (i j : ℕ) → i < j → j < length list → slice_index list j < slice_index list i
  pub each : (i : ℕ) → i < length list → MergeBase h a b (slice_index list i)
  pub high : (i : ℕ) → i < length list → low ≤ slice_index list i
  pub all : (k : ℕ) → low ≤ k → MergeBase h a b k → (i : ℕ) × (i < length list) × (slice_index list i ≡ k)

-- the first results that fit, in front of what stood behind them
abbrev pub filled : List ℕ → List ℕ → List ℕ
filled list results = take (length results) list ++ drop (length list) results
