use Rattle.std.proofs.Common.{◌-◌, ◌*◌, ◌++◌, subst, arith}
use Rattle.graph_file.specs.Outputs.{Puts}
use Rattle.graph_file.specs.Words.{word, long_word}
use Rattle.graph_file.proofs.Fronts.{last_with_edges, last_without}
use Rattle.graph_file.proofs.front.put_last_entries.Goals as goal
use Rattle.graph_file.proofs.front.put_last_entries.Goals.{then-sizes-gt0, else-sizes-gt0}

pub returns-clause-puts : goal.returns-clause-puts
returns-clause-puts c =
    let o = c.args.output.now in
    let q = c.put_entry-2.new.output in
    let edges = c.args.sizes.edges in
    let size = c.file-size.result in
    elim c.if-sizes-gt0.branch [
      | then-sizes-gt0 w ↦
          last_with_edges o w.put_entry.new.output q c.args.sizes.commits edges (size - 4 * edges) size w.if-sizes-gt0.true (omega (arith, c.file-size.ensures)) c.file-size.ensures
          w.put_entry.ensures.puts w.put_entry.ensures.moved.2 (subst (λ p. Puts p q (word 0 ++ long_word size)) w.output-is c.put_entry-2.ensures.puts) (omega arith)
      | else-sizes-gt0 w ↦
          last_without o q c.args.sizes.commits edges size w.if-sizes-gt0.false c.file-size.ensures (subst (λ p. Puts p q (word 0 ++ long_word size)) w.output-is c.put_entry-2.ensures.puts)
    ]
