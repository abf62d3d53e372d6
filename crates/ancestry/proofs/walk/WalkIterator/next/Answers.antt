use Rattle.std.proofs.Common.{◌<◌, get_or, length, refl, sym, ap, ◌∙◌, subst, arith, rules}
use Rattle.ancestry.specs.Painting.{Progress, Advanced, all_laid}
use Rattle.ancestry.specs.Paints.{passed}
use Rattle.ancestry.proofs.Bits.{passed_painted}
use Rattle.ancestry.proofs.Laying.{take_painted, take_held, take_leaves}
use Rattle.ancestry.proofs.Tidying.{taken_under, taken_painted, taken_skips}
use Rattle.ancestry.proofs.walk.WalkIterator.next.Goals as goal

pub bounds-self-inside-next : goal.bounds-self-inside-next
bounds-self-inside-next g c =
    let w = c.self.inside in
    let n = c.in_ok-next.next.number in
    let taken = c.in_ok-next.ensures.cases in
    omega (arith, taken_under _ _ _ _ _ w.queue.within c.self.invariant.1 c.pop.new.self.entries.now c.pop.new.self.count n taken.0 taken.1 c.pop.ensures.long, c.self.invariant.1.bound)

pub overflow_sub-self : goal.overflow_sub-self
overflow_sub-self g c =
    let w = c.self.inside in
    let n = c.in_ok-next.next.number in
    let taken = c.in_ok-next.ensures.cases in
    take_held _ _ _ _ _ w.queue.within c.self.invariant.1 (search rules)
    c.pop.new.self.entries.now c.pop.new.self.count n taken.0 taken.1 c.pop.ensures.long c.from-paint.result _ (search rules) (search rules)

pub parents_at-parents-requires : goal.parents_at-parents-requires
parents_at-parents-requires g c =
    let w = c.self.inside in
    let n = c.in_ok-next.next.number in
    let taken = c.in_ok-next.ensures.cases in
    omega (arith, taken_under _ _ _ _ _ w.queue.within c.self.invariant.1 c.pop.new.self.entries.now c.pop.new.self.count n taken.0 taken.1 c.pop.ensures.long, c.self.invariant.0)

pub invariant_of-self-2 : goal.invariant_of-self-2
invariant_of-self-2 g c =
    let w = c.self.inside in
    let n = c.in_ok-next.next.number in
    let taken = c.in_ok-next.ensures.cases in
    let under = taken_under _ _ _ _ _ w.queue.within c.self.invariant.1 c.pop.new.self.entries.now c.pop.new.self.count n taken.0 taken.1 c.pop.ensures.long in (
      omega (arith, under, c.self.invariant.0),
      take_leaves _ _ _ _ _ w.queue.within c.self.invariant.1 (search rules)
          c.pop.new.self.entries.now c.pop.new.self.count n taken.0 taken.1 c.pop.ensures.long c.from-paint.result _ (search rules) (search rules),
    )

pub spread-requires-clause-under : goal.spread-requires-clause-under
spread-requires-clause-under g c =
    let listed = c.parents_at-parents.ensures in
    λ i lt.
    c.self.inside.graph.now.proper.falling c.in_ok-next.next.number (get_or c.parents_at-parents.result.now i 0)
    (i, omega (arith, ap length listed), sym (ap (λ l. get_or l i 0) listed))

pub spread-requires-clause-paints : goal.spread-requires-clause-paints
spread-requires-clause-paints g c =
    let w = c.self.inside in
    let n = c.in_ok-next.next.number in
    let taken = c.in_ok-next.ensures.cases in
    λ e.
    passed_painted c.from-paint.result
    (take_painted _ _ _ _ _ w.queue.within c.self.invariant.1 (search rules)
    c.pop.new.self.entries.now c.pop.new.self.count n taken.0 taken.1 c.pop.ensures.long c.from-paint.result _ (search rules) refl)
    (sym c.passed_on.ensures ∙ e)

pub returns-clause-steps : goal.returns-clause-steps
returns-clause-steps g c =
    let w = c.self.inside in
    let n = c.in_ok-next.next.number in
    let taken = c.in_ok-next.ensures.cases in
    let paint = c.from-paint.result in
    let A : Progress → Type 0 = λ s. Advanced s.commits s c.spread.new.self n paint in
    let under = taken_under _ _ _ _ _ w.queue.within c.self.invariant.1 c.pop.new.self.entries.now c.pop.new.self.count n taken.0 taken.1 c.pop.ensures.long in
    let new = c.spread.ensures in
    subst A c.self.view_is
    record {
      under = under;
      within = omega (arith, under, c.self.invariant.1.bound);
      found = taken_painted _ _ _ _ _ w.queue.within c.self.invariant.1 c.pop.new.self.entries.now c.pop.new.self.count n taken.0 taken.1 c.pop.ensures.long;
      skipped = taken_skips _ _ _ _ _ w.queue.within c.self.invariant.1 c.pop.new.self.entries.now c.pop.new.self.count n taken.0 taken.1 c.pop.ensures.long;
      bears = c.from-paint.ensures;
      commits = ap (λ s. s.commits) new;
      goal = ap (λ s. s.goal) new;
      lower = ap (λ s. s.low) new;
      spread = ap (λ s. s.marks) new ∙ ap (λ p. all_laid p w.marks.now c.parents_at-parents.result.now) c.passed_on.ensures
          ∙ ap (all_laid (passed paint) w.marks.now) c.parents_at-parents.ensures;
    }

pub returns-clause-goes : goal.returns-clause-goes
returns-clause-goes g c =
    let w = c.self.inside in
    let n = c.in_ok-next.next.number in
    let taken = c.in_ok-next.ensures.cases in
    let falls : c.spread.new.self.low < c.args.self.now.low =
    omega (arith, taken_under _ _ _ _ _ w.queue.within c.self.invariant.1 c.pop.new.self.entries.now c.pop.new.self.count n taken.0 taken.1 c.pop.ensures.long, ap (λ s. s.low) c.spread.ensures, ap (λ s. s.low) c.self.view_is) in
    search rules
