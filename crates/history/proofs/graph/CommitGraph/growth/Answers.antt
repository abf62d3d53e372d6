use Rattle.std.proofs.Common.{map, get_or, take, sym, ◌∙◌, arith}
use Rattle.std.proofs.lemmas.List.{get_or-take, get_or_default}
use Rattle.history.specs.Generations.{above, root_date}
use Rattle.history.specs.Tables.{no_row, row_of}
use Rattle.history.proofs.Making.{made_more}
use Rattle.history.proofs.Lists.{get_d_map_take}
use Rattle.history.proofs.graph.CommitGraph.growth.Goals as goal

pub loop-p-preserved : goal.loop-p-preserved
loop-p-preserved g c =
    let k = g.K.LabelKind in
    let b = c.args.self.now in
    let n = b.count in
    let rows = b.rows.now in
    let ls = b.labels.now in
    let ps = c.args.parents.now in
    let date = c.args.date in
    let i = c.loop-p.p-index in
    let lt = c.loop-p-test.true in
    let p = get_or ps i 0 in
    let low = c.requires.held i lt in
    let row = row_of rows p in
    let levels = map (λ x. x.level) (take n rows) in
    let dates = map (λ x. x.corrected) (take n rows) in
    let inv = c.loop-p.invariant in
    let most = b.bounded p low in (
      made_more (λ _ _. 1) above levels date ps i c.loop-p.level row.level _ lt inv.0 (sym (get_d_map_take (λ x. x.level) rows n p no_row 1 b.rowed low)) c.max-level.ensures,
      made_more (λ _ d. root_date d) above dates date ps i c.loop-p.corrected row.corrected _ lt inv.1 (sym (get_d_map_take (λ x. x.corrected) rows n p no_row date b.rowed low)) c.max-corrected.ensures,
      made_more k.start k.grown (take n ls) date ps i c.loop-p.label (get_or ls p c.index-self-p.result) _ lt inv.2
          (get_or_default ls p _ _ (omega arith) ∙ sym (get_or-take n ls p _ low)) c.grow-label.ensures,
      omega (arith, c.max-level.ensures),
      omega (arith, c.max-corrected.ensures),
    )
