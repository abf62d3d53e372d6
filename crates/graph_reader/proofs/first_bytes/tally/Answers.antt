use Rattle.std.proofs.Common.{◌+◌, [], get_or, refl, ◌∙◌, arith}
use Rattle.std.proofs.lemmas.List.{length-set}
use Rattle.graph_reader.proofs.FirstBytes.{none_counted, tally_more, tally_most}
use Rattle.graph_reader.proofs.first_bytes.tally.Goals as goal

pub loop-id-init : goal.loop-id-init
loop-id-init c = (refl, λ i lt. none_counted i, λ i. omega (arith, none_counted i))

pub loop-id-preserved : goal.loop-id-preserved
loop-id-preserved c =
    let ids = c.args.ids.now in
    let p = c.loop-id.id-index in
    let counts = c.loop-id.counts in
    let first = get_or (get_or ids p []) 0 0 in
    let inv = c.loop-id.invariant in (
      length-set counts first (get_or counts first 0 + 1) ∙ inv.0,
      tally_more ids counts p c.loop-id-test.true inv.0 first refl (omega arith) inv.1,
      tally_most ids counts p c.loop-id-test.true inv.0 first refl (omega arith) inv.1 inv.2,
    )
