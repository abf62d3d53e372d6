use Rattle.std.proofs.Common.{◌+◌, Err, sym, ap, ◌∙◌, inl, inr}
use Rattle.history.specs.declared.load_fault.ChunkFault.TheVariants.{WrongParent}
use Rattle.graph_reader.specs.Holding.{listed}
use Rattle.graph_reader.specs.PartParents.{as_fault, behind}
use Rattle.graph_reader.proofs.ParentSteps.{others_listed, others_wrong}
use Rattle.graph_reader.proofs.parts.Parts.add_others.Goals as goal
use Rattle.graph_reader.proofs.parts.Parts.add_others.Goals.{else-second-next-via-then-second-next+else-next-self, else-second-next-via-else-second-next}

pub returns-then-next-self : goal.returns-then-next-self
returns-then-next-self c =
    c.add_listed.ensures
    ∙ ap (λ r. as_fault (behind (listed c.args.list) r)) (sym (others_listed c.args.self.now c.args.position c.args.next c.second-second.result c.second-second.ensures
    c.if-second-eq-NO_PARENT.false c.if-second-self.false c.if-second-next.true c.if-next-self.true))

pub returns : goal.returns
returns c =
    ap (λ row. Err (WrongParent (row + 24))) c.place_of.ensures
    ∙ ap (λ r. as_fault (behind (listed c.args.list) r)) (sym (others_wrong c.args.self.now c.args.position c.args.next c.second-second.result c.second-second.ensures
    c.if-second-eq-NO_PARENT.false c.if-second-self.false
    (elim c.else-second-next.branch [
      | else-second-next-via-then-second-next+else-next-self w ↦ inr w.if-next-self.false
      | else-second-next-via-else-second-next w ↦ inl w.if-second-next.false
    ])))
