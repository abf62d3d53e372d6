-- When a question about two commits is refused before its walk, tested in this order. Assumes nothing.
use Rattle.std.specs.Prelude.{◌≡◌, ℕ, ◌<◌, ◌≤◌, min, cond, List, length, drop, Some, None, Ok, Err, Option, Result, nat_le, nat_lt, slice_index}
use Rattle.history.specs.declared.refusal.Refusal.{Refusal}
use Rattle.history.specs.declared.refusal.Refusal.TheVariants.{BufferTooShort, ResultTooShort, CommitNotHeld}
use Rattle.history.specs.History.{Commit}
use Rattle.ancestry.specs.Ancestry.{Bases, filled}

-- of a history of so many commits, when the greatest number named is `top`, with buffers of these lengths
abbrev pub walk_refusal : ℕ → ℕ → ℕ → ℕ → Option Refusal
walk_refusal count top marks queue =
    cond (nat_le count top) (Some CommitNotHeld) (cond (nat_le (min marks queue) top) (Some BufferTooShort) None)

-- what is lent to a walk from a and b among so many commits: clear marks, and a queue with room for each marked commit
pub record Lent {Q : Type 0} (a b count : ℕ) (marks : List ℕ) (queue : List Q) : Type 0 where
  pub clear : (k : ℕ) → slice_index marks k ≡ 0
  pub first : a < length marks
  pub second : b < length marks
  pub room : length marks ≤ length queue
  pub held : length marks ≤ count

-- after a walk: the used marks are 0, and all later marks and queue entries stand
pub record Cleared {Q : Type 0} (used : ℕ) (marks marks' : List ℕ) (queue queue' : List Q) : Type 0 where
  pub zero : (k : ℕ) → k < used → slice_index marks' k ≡ 0
  pub later_marks : drop used marks' ≡ drop used marks
  pub later_queue : drop used queue' ≡ drop used queue

-- a count, or a refusal with the length needed where the list has fewer entries
abbrev pub counted_reply : ℕ → ℕ → Result ℕ Refusal
counted_reply room found = cond (nat_lt room found) (Err (ResultTooShort found)) (Ok found)

-- marks and queue after a question: as they were where it was refused before its walk
abbrev pub LentBack : {Q : Type 0} → Option Refusal → ℕ → List ℕ → List ℕ → List Q → List Q → Type 0
LentBack (Some e) used marks marks' queue queue' = (marks' ≡ marks) × (queue' ≡ queue)
LentBack None used marks marks' queue queue' = Cleared used marks marks' queue queue'

-- the merge bases of two commits as a reply and a list
abbrev pub Merged : List Commit → ℕ → ℕ → Option Refusal → List ℕ → List ℕ → Result ℕ Refusal → Type 0
Merged h a b (Some e) results results' r = (r ≡ Err e) × (results' ≡ results)
Merged h a b None results results' r =
    (list : List ℕ) × Bases h a b 0 list × (results' ≡ filled list results) × (r ≡ counted_reply (length results) (length list))
