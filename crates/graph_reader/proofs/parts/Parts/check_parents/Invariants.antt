use Rattle.std.proofs.Common.{◌≡◌, ◌*◌, ◌≤◌}
use Rattle.graph_reader.specs.PartParents.{parents_of_all}
use Rattle.graph_reader.specs.Verdict.{failed_at}
use Rattle.graph_reader.proofs.ParentPass.{parents_onward}
use Rattle.graph_reader.proofs.parts.Parts.check_parents.Given as goal

abbrev pub invariant-loop-position : goal.invariant-loop-position
invariant-loop-position l =
    (l.next ≤ 64 * l.position) × (failed_at (parents_of_all l.self) ≡ failed_at (parents_onward l.self l.position l.next))
