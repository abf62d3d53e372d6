use Rattle.std.proofs.Common.{◌*◌, take}
use Rattle.std.specs.List.{flat_map}
use Rattle.history.specs.Graph.{history}
use Rattle.history.specs.History.{parents_of}
use Rattle.graph_file.specs.Encoding.{edges_from}
use Rattle.graph_file.specs.Layout.{edge_bytes}
use Rattle.graph_file.specs.Outputs.{Moved, Puts}
use Rattle.graph_file.specs.Placing.{WhenFiled, extras, listed}
use Rattle.graph_file.proofs.edge_list.put_edges.Given as goal

abbrev pub invariant-loop-number : goal.invariant-loop-number
invariant-loop-number g l =
    record {
      moved : Moved l.initial.output l.output (4 * extras (history l.graph) (take l.number-index (listed l.graph)));
      puts : WhenFiled l.graph (λ h order. Puts l.initial.output l.output (edge_bytes (flat_map (λ n. edges_from order (parents_of h n)) (take l.number-index order))));
    }
