use Rattle.std.proofs.Common.{◌≡◌, ◌*◌, ◌≤◌, take}
use Rattle.std.specs.List.{flat_map}
use Rattle.history.specs.Graph.{history}
use Rattle.graph_file.specs.Encoding.{rows_from}
use Rattle.graph_file.specs.Layout.{row_bytes}
use Rattle.graph_file.specs.Outputs.{Moved, Puts}
use Rattle.graph_file.specs.Placing.{WhenFiled, extras, listed}
use Rattle.graph_file.proofs.rows.put_rows.Given as goal

abbrev pub invariant-loop-number : goal.invariant-loop-number
invariant-loop-number g l =
    record {
      from : l.start ≡ extras (history l.graph) (take l.number-index (listed l.graph));
      few : l.start ≤ 262144 * l.number-index;
      moved : Moved l.initial.output l.output (36 * l.number-index);
      puts : WhenFiled l.graph (λ h order. Puts l.initial.output l.output (flat_map row_bytes (take l.number-index (rows_from h order 0 order))));
    }
