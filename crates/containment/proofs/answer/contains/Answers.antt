use Rattle.std.proofs.Common.{arith}
use Rattle.containment.proofs.Tops.{top_target, top_tip}
use Rattle.containment.proofs.answer.contains.Goals as goal

pub invariant_of-question-clause-target_within : goal.invariant_of-question-clause-target_within
invariant_of-question-clause-target_within g c = omega (arith, c.in_ok-size.ensures.roomy.sized, top_target c.args.target c.args.tips.now)

pub invariant_of-question-clause-tips_within : goal.invariant_of-question-clause-tips_within
invariant_of-question-clause-tips_within g c = λ i l. omega (arith, c.in_ok-size.ensures.roomy.sized, top_tip c.args.target c.args.tips.now i l)
