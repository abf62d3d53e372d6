use Rattle.std.proofs.Common.{◌≡◌, ◌+◌}
use Rattle.graph_reader.specs.Holding.{listed}
use Rattle.graph_reader.specs.PartParents.{behind, list_at}
use Rattle.graph_reader.proofs.ParentSteps.{list_from}
use Rattle.graph_reader.proofs.parts.Parts.add_listed.Given as goal

abbrev pub invariant-loop-k : goal.invariant-loop-k
invariant-loop-k l =
    (l.list.size ≡ l.initial.list.size + l.k)
    × (behind (listed l.initial.list) (list_at l.self l.next) ≡ list_from l.self (listed l.list) (l.next + l.k) l.k)
