use Rattle.std.proofs.Common.{◌≡◌, ℕ, ◌<◌, ◌≤◌, get_or}
use Rattle.containment.specs.Settling.{restored}
use Rattle.containment.proofs.tell.restore.Given as goal

abbrev pub invariant-loop-mark : goal.invariant-loop-mark
invariant-loop-mark l =
    ((k : ℕ) → k < l.mark-index → get_or l.marks k 0 ≡ restored (get_or l.initial.marks k 0))
    × ((k : ℕ) → l.mark-index ≤ k → get_or l.marks k 0 ≡ get_or l.initial.marks k 0)
