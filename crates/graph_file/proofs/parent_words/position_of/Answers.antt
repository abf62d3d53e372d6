use Rattle.std.proofs.Common.{subst}
use Rattle.history.specs.Order.{Splits}
use Rattle.graph_file.proofs.Filing.{place_is_position}
use Rattle.graph_file.proofs.parent_words.position_of.Goals as goal

pub returns-clause-value : goal.returns-clause-value
returns-clause-value g c = λ h order s.
    let b = c.args.graph.now in
    let place = c.place.result in
    place_is_position b h order s c.args.number place c.requires c.place.ensures.within
    (subst (λ r. Splits b.rows.now b.order.now b.count r.id.bytes place place) c.row_at.ensures (c.place.ensures.splits s.rising))
