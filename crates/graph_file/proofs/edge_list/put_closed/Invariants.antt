use Rattle.std.proofs.Common.{◌*◌, take}
use Rattle.graph_file.specs.Encoding.{positions}
use Rattle.graph_file.specs.Layout.{edge_bytes}
use Rattle.graph_file.specs.Outputs.{Moved, Puts}
use Rattle.graph_file.specs.Placing.{WhenFiled}
use Rattle.graph_file.proofs.edge_list.put_closed.Given as goal

abbrev pub invariant-loop-parent : goal.invariant-loop-parent
invariant-loop-parent g l =
    record {
      moved : Moved l.initial.output l.output (4 * l.parent-index);
      puts : WhenFiled l.graph (λ h order. Puts l.initial.output l.output (edge_bytes (take l.parent-index (positions order l.others))));
    }
