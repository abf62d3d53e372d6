use Rattle.std.proofs.Common.{ℕ, ◌+◌, List, sym, subst, arith}
use Rattle.std.proofs.lemmas.Bool.{both_ways}
use Rattle.history.specs.Graph.{history}
use Rattle.containment.specs.Settling.{Settled}
use Rattle.containment.proofs.Settles.{settle_none, settle_mark, settle_skip}
use Rattle.containment.proofs.question.Question.settle.Goals as goal
use Rattle.containment.proofs.question.Question.settle.Goals.{then-marks-number+then-arrives, else-marks-number, else-marks-number-via-then-marks-number+else-arrives, else-marks-number-via-else-marks-number}

pub loop-number-init : goal.loop-number-init
loop-number-init g c =
    let b = c.args.self.now.graph.now in
    settle_none (history b) c.args.self.now.target b.proper.falling c.args.marks.now c.requires.bits

pub loop-number-preserved : goal.loop-number-preserved
loop-number-preserved g c =
    let b = c.args.self.now.graph.now in
    let t = c.args.self.now.target in
    let n = c.loop-number.number in
    let m = c.loop-number.marks in
    let old = c.args.marks.now in
    let Goal : List ℕ → Type 0 = λ x. Settled (history b) t (n + 1) old x in
    elim c.if-marks-number.branch [
      | then-marks-number+then-arrives w ↦
          subst Goal (sym w.marks-is)
          (settle_mark (history b) t b.proper.falling old c.requires.bits n m c.loop-number.invariant (omega arith) w.if-marks-number.true (w.arrives.ensures.0 w.if-arrives.true))
      | else-marks-number w ↦
          subst Goal (sym w.marks-is)
          (settle_skip (history b) t b.proper.falling old c.requires.bits n m c.loop-number.invariant
          (elim w.else-marks-number.branch [
            | else-marks-number-via-then-marks-number+else-arrives v ↦ λ e y. both_ways v.arrives.result v.if-arrives.false (v.arrives.ensures.1 y)
            | else-marks-number-via-else-marks-number v ↦ λ e y. v.if-marks-number.false e
          ]))
    ]
