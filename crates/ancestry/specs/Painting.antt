-- What holds of the marks all along a walk from two commits. Assumes nothing.
use Rattle.std.specs.Prelude.{◌≡◌, ℕ, ◌<◌, ◌≤◌, Bool, true, ◌⊎◌, ◌==◌, List, count_by, length, take, fold, ◌≢◌, slice_index, slice_set, nat_lt}
use Rattle.frontier.specs.declared.elements.ByNumber.{ByNumber}
use Rattle.frontier.specs.Heaps.{Among, Distinct}
use Rattle.history.specs.History.{Commit, Parent, Reaches, parents_of}
use Rattle.ancestry.specs.declared.goal.Goal.{Goal}
use Rattle.ancestry.specs.declared.goal.Goal.TheVariants.{Counts, Bases}
use Rattle.ancestry.specs.declared.paint.Paint.{Paint}
use Rattle.ancestry.specs.declared.paint.Paint.TheVariants.{Left, Right, Both}
use Rattle.ancestry.specs.Ancestry.{Common}
use Rattle.ancestry.specs.Paints.{paint_of, byte_of, joined, passed, left, right, below}

abbrev pub paint_at : List ℕ → ℕ → Paint
paint_at marks k = paint_of (slice_index marks k)

-- some other commit that both reach reaches k
abbrev pub Under : List Commit → ℕ → ℕ → ℕ → Type 0
Under h a b k = (d : ℕ) × (k < d) × Common h a b d × Reaches h d k

-- what a paint on k tells is so
pub record Sound (h : List Commit) (a b k : ℕ) (paint : Paint) : Type 0 where
  pub by_left : left paint ≡ true → Reaches h a k
  pub by_right : right paint ≡ true → Reaches h b k
  pub by_below : below paint ≡ true → Under h a b k

-- a parent bears what its child's paint lays on it
pub record Handed (child parent : Paint) : Type 0 where
  pub by_left : left child ≡ true → left parent ≡ true
  pub by_right : right child ≡ true → right parent ≡ true
  pub by_below : left child ≡ true → right child ≡ true → below parent ≡ true

-- paints are sound, the two commits bear theirs, and every commit from `low` on has handed its paint to its parents
pub record Painting (h : List Commit) (a b low : ℕ) (marks : List ℕ) : Type 0 where
  pub sound : (k : ℕ) → Sound h a b k (paint_at marks k)
  pub first : left (paint_at marks a) ≡ true
  pub second : right (paint_at marks b) ≡ true
  pub handed : (k p : ℕ) → low ≤ k → Parent h k p → Handed (paint_at marks k) (paint_at marks p)

abbrev pub waiting : ℕ → ByNumber
waiting k = record { number = k }

abbrev pub higher : ByNumber → ByNumber → Bool
higher x y = nat_lt y.number x.number

-- whether a mark shows the paint of byte v
abbrev pub shows : ℕ → ℕ → Bool
shows v mark = byte_of (paint_of mark) == v

-- the queue holds just the painted commits below `low`, each once, and their paints are counted, each in its place
pub record Tidy (marks : List ℕ) (queue : List ByNumber) (count low : ℕ) (bearing : List ℕ) : Type 0 where
  pub waits : (k : ℕ) → k < low → (slice_index marks k ≢ 0) → Among (waiting k) queue count
  pub painted : (k : ℕ) → Among (waiting k) queue count → (k < low) × (slice_index marks k ≢ 0)
  pub distinct : Distinct queue count
  pub counts : (v : ℕ) → 0 < v → slice_index bearing v ≡ count_by (shows v) (take low marks)
  pub bound : low ≤ length marks
  pub room : length marks ≤ length queue
  pub few : length marks ≤ 65536

-- how far a walk has come: its history and what it is to find out, the marks, and the number from which on every painted commit has been taken out
pub record Progress : Type 0 where
  pub commits : List Commit
  pub goal : Goal
  pub marks : List ℕ
  pub low : ℕ

-- the marks once paint has arrived at a commit, and at each of a list
abbrev pub laid : Paint → List ℕ → ℕ → List ℕ
laid arriving marks k = slice_set marks k (byte_of (joined (paint_at marks k) arriving))

abbrev pub all_laid : Paint → List ℕ → List ℕ → List ℕ
all_laid arriving marks ps = fold (laid arriving) marks ps

-- c was taken out: the greatest of those that waited. Its paint has been laid on its parents
pub record Advanced (h : List Commit) (s s' : Progress) (c : ℕ) (paint : Paint) : Type 0 where
  pub under : c < s.low
  pub within : c < length s.marks
  pub found : (slice_index s.marks c ≢ 0)
  pub skipped : (k : ℕ) → c < k → k < s.low → slice_index s.marks k ≡ 0
  pub bears : paint ≡ paint_at s.marks c
  pub commits : s'.commits ≡ s.commits
  pub goal : s'.goal ≡ s.goal
  pub lower : s'.low ≡ c
  pub spread : s'.marks ≡ all_laid (passed paint) s.marks (parents_of h c)

-- no commit that waits bears the paint
abbrev pub NoneBears : Paint → Progress → Type 0
NoneBears paint s = (k : ℕ) → k < s.low → (paint_at s.marks k ≢ paint)

-- nothing that waits can change the answer. Counts: all that waits is reached from both. Merge bases: what waits and is reached from both lies below a
-- common ancestor, and no two waiting lines can still meet
abbrev pub Settled : Goal → Progress → Type 0
Settled Counts s = NoneBears Left s × NoneBears Right s
Settled Bases s = NoneBears Both s × (NoneBears Left s ⊎ NoneBears Right s)
