use Rattle.std.proofs.Common.{◌≡◌, ◌+◌, ◌≤◌, map, take}
use Rattle.history.specs.Generations.{above, root_date}
use Rattle.history.specs.Labels.{made}
use Rattle.history.proofs.graph.CommitGraph.growth.Given as goal

abbrev pub invariant-loop-p : goal.invariant-loop-p
invariant-loop-p g l =
    let k = g.K.LabelKind in
    let rows = take l.self.count l.self.rows.now in
    let seen = take l.p-index l.parents in
    (l.level ≡ made (λ _ _. 1) above (map (λ x. x.level) rows) l.date seen)
    × (l.corrected ≡ made (λ _ d. root_date d) above (map (λ x. x.corrected) rows) l.date seen)
    × (l.label ≡ made k.start k.grown (take l.self.count l.self.labels.now) l.date seen)
    × (l.level ≤ l.self.count + 1)
    × (l.corrected ≤ 17179869183 + l.self.count)
