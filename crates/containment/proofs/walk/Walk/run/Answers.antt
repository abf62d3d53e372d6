use Rattle.std.proofs.Common.{sym, refl, ap, ◌∙◌, arith}
use Rattle.containment.proofs.Parents.{parents_below}
use Rattle.containment.proofs.Walks.{marked_popped, distinct_popped, taken_within, walk_begins, walk_goes, walk_ends}
use Rattle.containment.proofs.walk.Walk.run.Goals as goal

pub loop-next-init : goal.loop-next-init
loop-next-init g c = record { walked = walk_begins _ c.visit_all.new.self c.requires c.visit_all.ensures.spread; same_marks = c.visit_all.ensures.same_marks }

pub parents_at-parents-requires : goal.parents_at-parents-requires
parents_at-parents-requires g c =
    let w = c.loop-next.self in
    let out = c.in-Some.ensures.cases in
    let low = taken_within w _ c.pop.new.self.entries.now c.pop.new.self.count c.in-Some.next out.0 c.in-Some.ensures.long out.1 in
    omega (arith, low, w.sized, ap (λ t. t.graph.now.count) c.loop-next.invariant.walked.question)

pub invariant_of-self-clause-marked : goal.invariant_of-self-clause-marked
invariant_of-self-clause-marked g c =
    marked_popped c.loop-next.self _ c.pop.new.self.entries.now c.pop.new.self.count c.pop.result c.pop.ensures.long c.pop.ensures.cases
    (λ u. (ap (λ z. z.count) (sym u.1), ap (λ z. z.entries.now) (sym u.1)))

pub invariant_of-self-clause-distinct : goal.invariant_of-self-clause-distinct
invariant_of-self-clause-distinct g c =
    distinct_popped c.loop-next.self _ c.pop.new.self.entries.now c.pop.new.self.count c.pop.result c.pop.ensures.long c.pop.ensures.cases
    (λ u. (ap (λ z. z.count) (sym u.1), ap (λ z. z.entries.now) (sym u.1)))

pub visit_all-requires-in-Some : goal.visit_all-requires-in-Some
visit_all-requires-in-Some g c =
    let w = c.loop-next.self in
    let out = c.in-Some.ensures.cases in
    let low = taken_within w _ c.pop.new.self.entries.now c.pop.new.self.count c.in-Some.next out.0 c.in-Some.ensures.long out.1 in
    record { within = λ j l. omega (arith, low, parents_below w.question.now.graph.now c.in-Some.next.number c.parents_at-parents.result.now c.parents_at-parents.ensures j l) }

pub loop-next-preserved : goal.loop-next-preserved
loop-next-preserved g c =
    let w = c.loop-next.self in
    let out = c.in-Some.ensures.cases in
    record {
      walked = walk_goes c.args.self.now.question.now w c.loop-next.invariant.walked _ _ c.in-Some.next refl refl out.0 c.in-Some.ensures.long out.1
          c.parents_at-parents.result.now c.parents_at-parents.ensures c.visit_all-in-Some.new.self c.visit_all-in-Some.ensures.spread;
      same_marks = c.visit_all-in-Some.ensures.same_marks ∙ c.loop-next.invariant.same_marks;
    }

pub returns-clause-trail : goal.returns-clause-trail
returns-clause-trail g c = walk_ends c.args.self.now.question.now c.loop-next.self c.loop-next.invariant.walked c.in_default.ensures.cases.0
