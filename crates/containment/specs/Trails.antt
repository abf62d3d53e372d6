-- Which tips contain a commit, and the trail of the walk that finds out. Assumes nothing.
use Rattle.std.specs.Prelude.{◌≡◌, ℕ, ◌+◌, ◌<◌, ◌≤◌, max, Bool, true, ◌||◌, List, [], ◌∷◌, length, drop, ◌==◌, slice_index, slice_index_or}
use Rattle.frontier.specs.declared.elements.ByNumber.{ByNumber}
use Rattle.history.specs.Counting.{Tally, Tells}
use Rattle.history.specs.History.{Commit, Parent, Reaches}

-- the greatest number that the question names
abbrev pub top_commit : ℕ → List ℕ → ℕ
top_commit target [] = target
top_commit target (tip ∷ tips) = max tip (top_commit target tips)

-- c is open towards the target: it is the target, or its label allows the target's
abbrev pub opens : {L : Type 0} → (L → L → Bool) → L → List L → ℕ → ℕ → Bool
opens allows d labels target c = c == target || allows (slice_index_or labels c d) (slice_index_or labels target d)

-- each commit's label allows the labels of its parents
abbrev pub Covers : {L : Type 0} → (L → L → Bool) → L → List Commit → List L → Type 0
Covers allows d h labels = (a p : ℕ) → Parent h a p → allows (slice_index_or labels a d) (slice_index_or labels p d) ≡ true

-- the commits that end a chain of one or more commits from a tip through parents, each open and numbered as the target or higher
pub data Trail (h : List Commit) (passes : ℕ → Bool) (target : ℕ) (tips : List ℕ) : ℕ → Type 0 where
  starts : {a i : ℕ} → i < length tips → slice_index tips i ≡ a → passes a ≡ true → target ≤ a → Trail h passes target tips a
  goes : {a p : ℕ} → Trail h passes target tips a → Parent h a p → passes p ≡ true → target ≤ p → Trail h passes target tips p

-- the results, the marks and the queue after an answer, with the number of commits on the trail
pub record Contained (h : List Commit) (passes : ℕ → Bool) (target : ℕ) (tips : List ℕ) (results results' marks marks' : List ℕ) (queue queue' : List ByNumber) (visits : ℕ) : Type 0 where
  pub told : (i : ℕ) → i < length tips → Tells (slice_index results' i) (Reaches h (slice_index tips i) target)
  pub later_results : drop (length tips) results' ≡ drop (length tips) results
  pub trail : (k : ℕ) → k < top_commit target tips + 1 → Tells (slice_index marks' k) (Trail h passes target tips k)
  pub later_marks : drop (top_commit target tips + 1) marks' ≡ drop (top_commit target tips + 1) marks
  pub later_queue : drop (top_commit target tips + 1) queue' ≡ drop (top_commit target tips + 1) queue
  pub visited : Tally (Trail h passes target tips) (top_commit target tips + 1) 0 visits
