use Rattle.std.proofs.Common.{◌<◌, ◌∙◌}
use Rattle.std.proofs.lemmas.List.Elements.{All-from_get_or}
use Rattle.graph_reader.proofs.ParentAgain.{parents_held}
use Rattle.graph_reader.proofs.parts.Parts.check_levels.Goals as goal

pub level_over-requires : goal.level_over-requires
level_over-requires c =
    let f = c.args.self.now in
    All-from_get_or (λ n. n < f.count) c.as_slice.result.now 0 (parents_held f c.requires c.loop-position.position c.as_slice.result.now (λ all e. c.as_slice.ensures.value ∙ c.parents_of-parents.ensures all e))
