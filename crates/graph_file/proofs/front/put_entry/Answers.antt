use Rattle.std.proofs.Common.{arith}
use Rattle.graph_file.specs.Words.{long_word}
use Rattle.graph_file.proofs.Placed.{puts_next}
use Rattle.graph_file.proofs.front.put_entry.Goals as goal

pub returns-clause-puts : goal.returns-clause-puts
returns-clause-puts c =
    puts_next c.args.output.now c.put_bytes.new.self c.put_long.new.self c.args.name.now (long_word c.args.place) c.put_bytes.ensures.puts (omega arith) c.put_long.ensures.puts (omega arith)
