use Rattle.history.specs.Graph.{history}
use Rattle.ancestry.proofs.Listings.{Listing}
use Rattle.ancestry.proofs.bases.list.Given as goal

abbrev pub invariant-loop-number : goal.invariant-loop-number
invariant-loop-number g l = Listing (history l.fn.graph) l.fn.graph.count l.a l.b l.number-iterator l.initial.results l.results l.found
