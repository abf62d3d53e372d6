use Rattle.std.proofs.Common.{[], get_or, refl}
use Rattle.graph_reader.specs.PartParents.{parents_at}
use Rattle.graph_reader.proofs.ParentAgain.{start_read, unwrapped}
use Rattle.graph_reader.proofs.parts.Parts.parents_of.Goals as goal

pub returns : goal.returns
returns c = λ all e.
    let f = c.args.self.now in
    let p = c.args.position in
    let read = parents_at f p c.start.result in
    unwrapped _ c.parents_by.result _ read (get_or all p []) c.unwrap_or_default.ensures c.parents_by.ensures
    (start_read f p c.start.result read refl c.start.ensures.value c.requires all e)
