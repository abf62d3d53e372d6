use Rattle.std.proofs.Common.{◌∙◌, rules}
use Rattle.history.specs.Graph.{history}
use Rattle.ancestry.proofs.Listings.{listing_begins, listing_more, listing_same, listing_ends}
use Rattle.ancestry.proofs.bases.list.Goals as goal

pub loop-number-init : goal.loop-number-init
loop-number-init g c =
    let graph = c.args.graph.now in
    listing_begins (history graph) graph.proper.falling graph.count c.args.a c.args.b c.args.results.now c.args.marks.now c.requires.clear c.requires.first c.requires.second
    c.requires.held c.into_iter-number-iterator.result (c.into_iter-number-iterator.ensures.into_iter_gives ∙ c.begin-number-items.ensures)

pub loop-number-preserved-then-eq : goal.loop-number-preserved-then-eq
loop-number-preserved-then-eq g c =
    listing_more _ c.args.graph.now.proper.falling _ _ _ _ _ _ _ _ c.in-Some.ensures.steps _ _ c.loop-number.invariant (search rules) _ c.note.ensures

pub loop-number-preserved : goal.loop-number-preserved
loop-number-preserved g c =
    listing_same _ c.args.graph.now.proper.falling _ _ _ _ _ _ _ _ c.in-Some.ensures.steps _ _ c.loop-number.invariant (search rules)

pub returns : goal.returns
returns g c = listing_ends _ c.args.graph.now.proper.falling _ _ _ _ c.loop-number.number-iterator c.in-None.ensures.steps.1 _ _ c.loop-number.invariant
