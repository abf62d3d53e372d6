use Rattle.std.proofs.Common.{get_or, sym, ◌∙◌, subst, arith}
use Rattle.history.specs.Graph.{history, labels}
use Rattle.containment.specs.Settling.{Settled}
use Rattle.containment.proofs.Answering.{trail_counted, tips_told}
use Rattle.containment.proofs.Covers.{graph_covers}
use Rattle.containment.proofs.question.Question.answer.Goals as goal

pub returns-clause-visited : goal.returns-clause-visited
returns-clause-visited g c =
    let k = g.K.LabelKind in
    let q = c.args.self.now in
    let first = c.mark_trail-visits in
    trail_counted k.allows (k.start 0 0) (history q.graph.now) (labels q.graph.now) q.graph.now.proper.falling q.target q.tips.now first.new.marks
    first.ensures.trail q.size first.result (first.auto.marks ∙ c.requires.marked) first.ensures.counted

pub returns-clause-told : goal.returns-clause-told
returns-clause-told g c =
    let k = g.K.LabelKind in
    let q = c.args.self.now in
    let first = c.mark_trail-visits in
    let sized = first.auto.marks ∙ c.requires.marked in
    let settled = subst (λ n. Settled (history q.graph.now) q.target n first.new.marks c.settle.new.marks) (sym sized) c.settle.ensures in
    let covers = graph_covers g.met.K.LabelKind.laws q.graph.now (k.start 0 0) in
    λ i lt.
    tips_told k.allows (k.start 0 0) (history q.graph.now) (labels q.graph.now) q.graph.now.proper.falling q.target q.tips.now first.new.marks
    first.ensures.trail c.settle.new.marks c.settle.auto.marks settled g.met.K.LabelKind.transitive covers i (get_or c.tell.new.results i 0) lt
    (omega (arith, q.tips_within i lt, sized)) (c.tell.ensures i lt)
