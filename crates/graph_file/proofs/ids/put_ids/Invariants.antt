use Rattle.std.proofs.Common.{◌*◌, take}
use Rattle.std.specs.List.{flat_map}
use Rattle.graph_file.specs.Outputs.{Moved, Puts}
use Rattle.graph_file.specs.Placing.{WhenFiled, ids_of}
use Rattle.graph_file.proofs.ids.put_ids.Given as goal

abbrev pub invariant-loop-number : goal.invariant-loop-number
invariant-loop-number g l =
    record {
      moved : Moved l.initial.output l.output (20 * l.number-index);
      puts : WhenFiled l.graph (λ h order. Puts l.initial.output l.output (flat_map (λ id. id) (take l.number-index (ids_of h order))));
    }
