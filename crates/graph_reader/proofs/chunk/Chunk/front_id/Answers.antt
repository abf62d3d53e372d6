use Rattle.std.proofs.Common.{◌-◌, ◌*◌, ◌<◌, length, take, drop, MatchOption, ap, ◌∙◌, subst, arith}
use Rattle.std.specs.Array.{IsFirstChunk}
use Rattle.std.proofs.lemmas.List.{length-drop, take_all}
use Rattle.graph_reader.proofs.chunk.Chunk.front_id.Goals as goal

pub returns : goal.returns
returns g c =
    let bytes = c.args.self.now.bytes.now in
    let at = g.row.WIDTH * c.args.row in
    let rest = take (length bytes - at) (drop at bytes) in
    (subst (λ o. MatchOption o (length rest < 20) (λ y. IsFirstChunk rest y.now 20)) c.unwrap.ensures c.first_chunk.ensures.cases).same
    ∙ ap (take 20) (take_all (length bytes - at) (drop at bytes) (omega (arith, length-drop at bytes)))
