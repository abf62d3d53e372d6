use Rattle.graph_reader.proofs.FirstBytes.{Summed}
use Rattle.graph_reader.proofs.first_bytes.sum_up.Given as goal

abbrev pub invariant-loop-i : goal.invariant-loop-i
invariant-loop-i l = Summed l.initial.counts l.counts l.i
