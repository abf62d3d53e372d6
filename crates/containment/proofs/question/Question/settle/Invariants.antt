use Rattle.history.specs.Graph.{history}
use Rattle.containment.specs.Settling.{Settled}
use Rattle.containment.proofs.question.Question.settle.Given as goal

abbrev pub invariant-loop-number : goal.invariant-loop-number
invariant-loop-number g l = Settled (history l.self.graph.now) l.self.target l.number l.initial.marks l.marks
