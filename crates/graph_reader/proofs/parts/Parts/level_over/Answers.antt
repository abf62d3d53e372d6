use Rattle.std.proofs.Common.{◌+◌, max, ◌∙◌, rules, tests}
use Rattle.std.proofs.lemmas.Iterator.{YieldsList-from_slice, YieldsList-from_map}
use Rattle.std.proofs.lemmas.Iterator.Consumers.{fold_from_yields_List}
use Rattle.graph_reader.specs.Levels.{row_level}
use Rattle.graph_reader.specs.PartParents.{part_row}
use Rattle.graph_reader.proofs.LevelSteps.{level_folded}
use Rattle.graph_reader.proofs.parts.Parts.level_over.Goals as goal

pub returns : goal.returns
returns c =
    let f = c.args.self.now in
    let ps = c.args.parents.now in
    fold_from_yields_List _ max 1 _ c.fold.ensures.ran
    (YieldsList-from_map _ (λ q. row_level (part_row f q) + 1) (YieldsList-from_slice ps cc) c.map.ensures.closure (λ x r q k. search rules)) (λ a x b q k. search (rules, tests))
    ∙ level_folded f.rows.bytes.now f.count ps c.requires
