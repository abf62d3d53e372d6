use Rattle.std.proofs.Common.{◌≡◌, take}
use Rattle.ancestry.specs.Painting.{all_laid}
use Rattle.ancestry.proofs.walk.Walk.spread.Given as goal

abbrev pub invariant-loop-p : goal.invariant-loop-p
invariant-loop-p g l = l.self ≡ record l.initial.self { marks = all_laid l.arriving l.initial.self.marks (take l.p-index l.list) }
