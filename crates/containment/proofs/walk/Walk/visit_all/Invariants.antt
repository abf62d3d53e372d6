use Rattle.std.proofs.Common.{◌≡◌, take}
use Rattle.containment.specs.Visits.{Spread}
use Rattle.containment.proofs.walk.Walk.visit_all.Given as goal

abbrev pub invariant-loop-number : goal.invariant-loop-number
invariant-loop-number g l =
    record { spread : Spread (take l.number-index l.numbers) l.initial.self l.self; same_marks : l.self.marks.ghost_name ≡ l.initial.self.marks.ghost_name }
