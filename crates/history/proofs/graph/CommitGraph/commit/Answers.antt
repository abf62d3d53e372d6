use Rattle.std.proofs.Common.{sym, ap, ◌∙◌, subst}
use Rattle.history.specs.Graph.{history}
use Rattle.history.specs.Reading.{Describes}
use Rattle.history.specs.Tables.{row_of}
use Rattle.history.proofs.Reading.{described}
use Rattle.history.proofs.graph.CommitGraph.commit.Goals as goal

pub returns : goal.returns
returns g c =
    let b = c.args.self.now in
    let here = c.in_ok-number.ensures in
    subst (Describes (history b) c.args.number) (sym (c.row_at.ensures ∙ ap (row_of b.rows.now) here.0)) (described b c.args.number here.1)
