-- What a visit and a list of visits do to a walk. Assumes nothing.
use Rattle.std.specs.Prelude.{◌≡◌, ℕ, ◌+◌, ◌<◌, ◌≤◌, true, false, ◌⊎◌, List, ◌∷◌, length, take, count_by, nat_eq, slice_index, slice_set}
use Rattle.std.specs.List.Sorted.{IsPermutation}
use Rattle.frontier.specs.Heaps.{Among}
use Rattle.labels.specs.declared.kind.LabelKind.{Ghosts}
use Rattle.containment.specs.declared.walk.Walk.{Walk}
use Rattle.containment.specs.Questions.{open_to, wanted_by}
use Rattle.containment.specs.Waiting.{numbered}

-- the commit has been marked and queued
pub record Joined {K L : Type 0} {kind : Ghosts K L} (number : ℕ) (old new : Walk K L kind) : Type 0 where
  pub question : new.question ≡ old.question
  pub counted : new.queue.count ≡ old.queue.count + 1
  pub marked : new.marks.now ≡ slice_set old.marks.now number 1
  pub holds : IsPermutation (numbered number ∷ take old.queue.count old.queue.entries.now) (take new.queue.count new.queue.entries.now)

module _ {K L : Type 0} {kind : Ghosts K L} where
  -- a commit that is wanted joins, any other is passed
  abbrev pub Visited : ℕ → Walk K L kind → Walk K L kind → Type 0
  Visited number old new =
      ((wanted_by old.question.now number (slice_index old.marks.now number) ≡ true) × Joined number old new)
      ⊎ ((wanted_by old.question.now number (slice_index old.marks.now number) ≡ false) × (new ≡ old))

  -- k is in the queue
  abbrev pub InQueue : ℕ → Walk K L kind → Type 0
  InQueue k walk = Among (numbered k) walk.queue.entries.now walk.queue.count

  -- how many commits are still to be taken out at most
  abbrev pub left : Walk K L kind → ℕ
  left walk = count_by (λ m. nat_eq m 0) walk.marks.now + walk.queue.count

-- k is in the list
abbrev pub Listed : List ℕ → ℕ → Type 0
Listed xs k = (j : ℕ) × (j < length xs) × (slice_index xs j ≡ k)

-- the open commits of the list, numbered as the target or higher, are marked; those that had no mark are queued, and nothing else changes
pub record Spread {K L : Type 0} {kind : Ghosts K L} (xs : List ℕ) (old new : Walk K L kind) : Type 0 where
  pub question : new.question ≡ old.question
  pub long : length new.marks.now ≡ length old.marks.now
  pub only : (k : ℕ) → (slice_index new.marks.now k ≡ slice_index old.marks.now k) ⊎ ((slice_index new.marks.now k ≡ 1) × Listed xs k × (open_to old.question.now k ≡ true) × (old.question.now.target ≤ k))
  pub all : (k : ℕ) → Listed xs k → open_to old.question.now k ≡ true → old.question.now.target ≤ k → slice_index new.marks.now k ≡ 1
  pub joins : (k : ℕ) → slice_index new.marks.now k ≡ 1 → (slice_index old.marks.now k ≡ 1) ⊎ InQueue k new
  pub stays : (k : ℕ) → InQueue k old → InQueue k new
  pub fewer : left new ≡ left old
