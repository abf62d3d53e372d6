use Rattle.std.proofs.Common.{◌∙◌}
use Rattle.containment.proofs.Spreads.{spread_step}
use Rattle.containment.proofs.walk.Walk.visit_all.Goals as goal

pub loop-number-preserved : goal.loop-number-preserved
loop-number-preserved g c =
    let i = c.loop-number.number-index in
    record {
      spread = spread_step c.args.numbers.now c.args.self.now c.loop-number.self c.visit.new.self i c.loop-number-test.true
          (c.requires.within i c.loop-number-test.true) c.loop-number.invariant.spread c.visit.ensures.visited;
      same_marks = c.visit.ensures.same_marks ∙ c.loop-number.invariant.same_marks;
    }
