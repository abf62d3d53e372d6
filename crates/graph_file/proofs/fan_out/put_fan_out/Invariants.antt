use Rattle.std.proofs.Common.{◌*◌, ◌≤◌}
use Rattle.std.specs.List.{range_with_len, flat_map}
use Rattle.graph_file.specs.Layout.{fan_out}
use Rattle.graph_file.specs.Outputs.{Moved, Puts}
use Rattle.graph_file.specs.Placing.{WhenFiled, ids_of, Low}
use Rattle.graph_file.specs.Words.{word}
use Rattle.graph_file.proofs.fan_out.put_fan_out.Given as goal

abbrev pub invariant-loop-byte : goal.invariant-loop-byte
invariant-loop-byte g l =
    record {
      within : l.count ≤ l.graph.count;
      moved : Moved l.initial.output l.output (4 * l.byte);
      puts : WhenFiled l.graph (λ h order.
          Low (ids_of h order) l.count l.byte × Puts l.initial.output l.output (flat_map (λ i. word (fan_out (ids_of h order) i)) (range_with_len 0 l.byte)));
    }
