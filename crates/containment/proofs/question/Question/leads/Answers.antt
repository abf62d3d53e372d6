use Rattle.std.proofs.Common.{rules, tests, arith}
use Rattle.std.proofs.lemmas.Iterator.{YieldsList-from_slice}
use Rattle.std.proofs.lemmas.Iterator.Adapters.{serves_from_places}
use Rattle.std.proofs.lemmas.List.{get_or_default}
use Rattle.containment.proofs.Parents.{parents_below}
use Rattle.containment.proofs.question.Question.leads.Goals as goal

pub any-requires-clause-callable : goal.any-requires-clause-callable
any-requires-clause-callable g c =
    let ps = c.parents_at.result.now in
    serves_from_places (YieldsList-from_slice ps c.iter.ensures.rest) (λ x q w. search (rules, tests))
    (λ x k lt e.
    let low = parents_below c.args.self.now.graph.now c.args.number ps c.parents_at.ensures k lt in
    let same = get_or_default ps k 0 x.now lt in
    omega (arith, low, same, e, c.requires.marked, c.requires.within))
