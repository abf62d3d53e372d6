use Rattle.std.proofs.Common.{cond, ltb, [], ◌∷◌, ◌++◌, codes, sym, ap, ◌∙◌, arith}
use Rattle.graph_file.specs.Placing.{placed}
use Rattle.graph_file.proofs.Fronts.{has_edges_is}
use Rattle.graph_file.proofs.Placed.{puts_next}
use Rattle.graph_file.proofs.front.put_header.Goals as goal

pub returns-clause-puts : goal.returns-clause-puts
returns-clause-puts c = λ es e.
    let o = c.args.output.now in
    puts_next o c.put_bytes.new.self c.put_bytes-2.new.self (codes "CGPH") (1 ∷ (1 ∷ (c.chunks.result ∷ (0 ∷ [])))) c.put_bytes.ensures.puts (omega arith) c.put_bytes-2.ensures.puts (omega arith)
    ∙ ap (λ n. placed o.bytes.now o.at (codes "CGPH" ++ (1 ∷ (1 ∷ (n ∷ (0 ∷ [])))))) (c.chunks.ensures ∙ ap (λ b. cond b 4 3) (ap (ltb 0) (sym e) ∙ sym (has_edges_is es)))
