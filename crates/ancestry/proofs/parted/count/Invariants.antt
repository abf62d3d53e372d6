use Rattle.history.specs.Graph.{history}
use Rattle.ancestry.proofs.Counts.{Counting}
use Rattle.ancestry.proofs.parted.count.Given as goal

abbrev pub invariant-loop-paint : goal.invariant-loop-paint
invariant-loop-paint g l = Counting (history l.fn.graph) l.fn.graph.count l.a l.b l.paint-iterator l.ahead l.behind
