use Rattle.graph_reader.specs.Verdict.{parents_in}
use Rattle.graph_reader.proofs.PartsHeld.{parents_told}
use Rattle.graph_reader.proofs.Sources.{no_fault, parts_held}
use Rattle.graph_reader.proofs.file.GraphFile.parents.Goals as goal

pub returns : goal.returns
returns c =
    let f = c.args.self.now in
    c.parents_of.ensures (parents_in f.file.now) (parents_told f.file.now f.parts (parts_held f) (no_fault f))
