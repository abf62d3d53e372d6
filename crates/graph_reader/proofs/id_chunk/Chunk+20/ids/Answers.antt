use Rattle.std.proofs.Common.{◌≡◌, ◌/◌, length, ap, ◌∙◌, arith}
use Rattle.std.specs.Simd.{first_chunks}
use Rattle.graph_reader.proofs.FirstBytes.{chunks_from}
use Rattle.graph_reader.proofs.id_chunk.Chunk+20.ids.Goals as goal

pub returns : goal.returns
returns c = λ count long.
    let chunk = c.args.self.now.bytes.now in
    let n : length chunk / 20 ≡ count = omega (arith, long) in
    c.as_chunks.ensures.front ∙ ap (λ k. first_chunks 20 k chunk) n ∙ chunks_from chunk 0 count
