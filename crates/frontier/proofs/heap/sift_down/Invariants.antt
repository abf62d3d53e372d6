use Rattle.std.proofs.Common.{◌-◌, length}
use Rattle.std.specs.List.Sorted.{IsPermutation}
use Rattle.frontier.specs.Heaps.{Sinking}
use Rattle.frontier.proofs.heap.sift_down.Given as goal

abbrev pub invariant-loop-i : goal.invariant-loop-i
invariant-loop-i g l = IsPermutation l.initial.heap l.heap × Sinking g.T.Ranked.before l.heap (length l.heap) l.i

abbrev pub decreases-loop-i : goal.decreases-loop-i
decreases-loop-i g l = length l.heap - l.i
