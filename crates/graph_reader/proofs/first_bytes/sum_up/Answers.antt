use Rattle.std.proofs.Common.{arith, rules}
use Rattle.graph_reader.proofs.FirstBytes.{summed_one, summed_more}
use Rattle.graph_reader.proofs.first_bytes.sum_up.Goals as goal

pub loop-i-init : goal.loop-i-init
loop-i-init c = summed_one c.args.counts (search rules) c.requires

pub loop-i-preserved : goal.loop-i-preserved
loop-i-preserved c = summed_more c.args.counts (search rules) c.requires c.loop-i.counts c.loop-i.i (omega arith) (omega arith) c.loop-i.invariant
