use Rattle.std.proofs.Common.{◌+◌, ◌-◌, length, arith}
use Rattle.graph_file.proofs.Placed.{placed_part}
use Rattle.graph_file.proofs.output.Output.put_bytes.Goals as goal

pub returns-clause-puts : goal.returns-clause-puts
returns-clause-puts c =
    let o = c.args.self.now in
    let bytes = c.args.bytes.now in
    placed_part o.bytes.now o.at (o.at + length bytes - o.at) bytes c.copy_from_slice.new.self c.copy_from_slice.ensures.after (omega arith)
