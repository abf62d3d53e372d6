use Rattle.std.proofs.Common.{sym, ap, ◌∙◌}
use Rattle.graph_file.specs.Layout.{edge_bytes}
use Rattle.graph_file.specs.Placing.{placed}
use Rattle.graph_file.proofs.EdgeWords.{edges_none}
use Rattle.graph_file.proofs.Placed.{puts_none}
use Rattle.graph_file.proofs.edge_list.put_edges_of.Goals as goal

pub returns-else-parents-gt2-clause-puts : goal.returns-else-parents-gt2-clause-puts
returns-else-parents-gt2-clause-puts g c = λ h order s.
    let o = c.args.output.now in
    puts_none o ∙ ap (λ w. placed o.bytes.now o.at (edge_bytes w)) (sym (edges_none order c.args.parents.now c.if-parents-gt2.false))
