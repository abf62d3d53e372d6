use Rattle.std.proofs.Common.{◌+◌, ◌*◌, sym, ap, ◌∙◌, subst, arith}
use Rattle.graph_file.specs.Encoding.{layout_of}
use Rattle.graph_file.specs.Placing.{Sized}
use Rattle.graph_file.proofs.DataRows.{rows_wide}
use Rattle.graph_file.proofs.FileParts.{file_put}
use Rattle.graph_file.proofs.Filing.{ids_wide}
use Rattle.graph_file.proofs.Fronts.{first_place_is}
use Rattle.graph_file.proofs.Replies.{file_sized}
use Rattle.graph_file.proofs.writer.put_parts.Goals as goal

pub returns-clause-puts : goal.returns-clause-puts
returns-clause-puts g c = λ h order s.
    let b = c.args.graph.now in
    let o = c.args.output.now in
    let edges = c.args.sizes.edges in
    let l = layout_of h order in
    let sized = file_sized b h order s edges c.requires.sized.1 in
    let p₂ = c.put_fan_out.new.output in
    let p₃ = c.put_ids.new.output in
    file_put l (ids_wide b h order s) (rows_wide h order s.ordered s.wide) o c.put_front.new.output p₂ p₃ c.put_rows.new.output c.put_edges.new.output (omega arith)
    (c.put_front.ensures.puts l (subst (λ n. Sized l n edges) (sym c.requires.sized.0) sized)) (c.put_fan_out.ensures.puts h order s) (c.put_ids.ensures.puts h order s)
    (c.put_rows.ensures.puts h order s) (c.put_edges.ensures.puts h order s)
    (c.put_front.ensures.moved.2 ∙ ap (λ n. o.at + n) (sym (first_place_is l b.count edges sized))) c.put_fan_out.ensures.moved.2
    (c.put_ids.ensures.moved.2 ∙ ap (λ n. p₂.at + 20 * n) (sym sized.ids)) (c.put_rows.ensures.moved.2 ∙ ap (λ n. p₃.at + 36 * n) (sym sized.rows))
