use Rattle.std.proofs.Common.{◌≡◌, ℕ, List, Ok}
use Rattle.graph_reader.specs.PartParents.{parents_of_all}
use Rattle.graph_reader.proofs.LevelSteps.{tests_from}
use Rattle.graph_reader.proofs.parts.Parts.check_levels.Given as goal

abbrev pub invariant-loop-position : goal.invariant-loop-position
invariant-loop-position l =
    let rest = tests_from l.self.rows.bytes.now l.self.count l.self.rows.place in
    (all : List (List ℕ)) → parents_of_all l.self ≡ Ok all → rest all 0 ≡ rest all l.position
