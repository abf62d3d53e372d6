use Rattle.std.proofs.Common.{arith}
use Rattle.graph_file.specs.Layout.{header, contents}
use Rattle.graph_file.proofs.Placed.{puts_next}
use Rattle.graph_file.proofs.front.put_front.Goals as goal

pub returns-clause-puts : goal.returns-clause-puts
returns-clause-puts c = λ l s.
    puts_next c.args.output.now c.put_header.new.output c.put_contents.new.output (header l.edges) (contents l)
    (c.put_header.ensures.puts l.edges s.words) c.put_header.ensures.moved.2 (c.put_contents.ensures.puts l s) (omega arith)
