use Rattle.std.proofs.Common.{◌≡◌}
use Rattle.containment.specs.Visits.{left}
use Rattle.containment.proofs.Walks.{Walked}
use Rattle.containment.proofs.walk.Walk.run.Given as goal

abbrev pub invariant-loop-next : goal.invariant-loop-next
invariant-loop-next g l =
    record { walked : Walked l.fn.self.question.now l.self; same_marks : l.self.marks.ghost_name ≡ l.fn.self.marks.ghost_name }

abbrev pub decreases-loop-next : goal.decreases-loop-next
decreases-loop-next g l = left l.self
