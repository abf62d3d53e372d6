-- When a question of containment is refused, tested in this order. Assumes nothing.
use Rattle.std.specs.Prelude.{◌≡◌, ℕ, ◌+◌, ◌≤◌, min, cond, List, length, Some, None, Option, nat_le, nat_lt}
use Rattle.history.specs.declared.refusal.Refusal.{Refusal}
use Rattle.history.specs.declared.refusal.Refusal.TheVariants.{BufferTooShort, ResultTooShort, CommitNotHeld}
use Rattle.containment.specs.Trails.{top_commit}

-- of a history of so many commits, with buffers of these lengths
abbrev pub contains_refusal : ℕ → ℕ → List ℕ → ℕ → ℕ → ℕ → Option Refusal
contains_refusal count target tips results marks queue =
    cond (nat_le count (top_commit target tips)) (Some CommitNotHeld)
    (cond (nat_lt results (length tips)) (Some (ResultTooShort (length tips)))
    (cond (nat_le (min marks queue) (top_commit target tips)) (Some BufferTooShort) None))

-- what is known of a question that is not refused: it uses the first `size` marks and entries of the queue
pub record Roomy (count target : ℕ) (tips : List ℕ) (results marks queue size : ℕ) : Type 0 where
  pub sized : size ≡ top_commit target tips + 1
  pub held : size ≤ count
  pub told : length tips ≤ results
  pub marked : size ≤ marks
  pub queued : size ≤ queue
