use Rattle.std.proofs.Common.{sym, subst}
use Rattle.frontier.specs.Heaps.{Distinct}
use Rattle.frontier.proofs.Members.{distinct_none}
use Rattle.containment.proofs.Spreads.{bits_clear}
use Rattle.containment.proofs.question.Question.mark_trail.Goals as goal

pub invariant_of-walk-clause-bits : goal.invariant_of-walk-clause-bits
invariant_of-walk-clause-bits g c = bits_clear c.fill.new.self _ (c.fill.ensures.after (λ y e. e))

pub invariant_of-walk-clause-distinct : goal.invariant_of-walk-clause-distinct
invariant_of-walk-clause-distinct g c =
    let q = c.over-queue in
    subst (Distinct q.result.entries.now) (sym q.ensures.empty) (distinct_none q.result.entries.now)
