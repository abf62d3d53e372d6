use Rattle.std.proofs.Common.{◌≡◌, drop}
use Rattle.history.specs.Ids.{precedes}
use Rattle.history.proofs.object_id.bytes_before.Given as goal

abbrev pub invariant-loop-i : goal.invariant-loop-i
invariant-loop-i l = precedes l.a l.b ≡ precedes (drop l.i l.a) (drop l.i l.b)
