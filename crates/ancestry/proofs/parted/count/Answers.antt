use Rattle.std.proofs.Common.{◌∙◌, sym}
use Rattle.history.proofs.Commits.{graph_length}
use Rattle.history.specs.Graph.{history}
use Rattle.ancestry.proofs.Counts.{counting_begins, counting_left, counting_right, counting_else, counting_ends}
use Rattle.ancestry.proofs.parted.count.Goals as goal

pub loop-paint-init : goal.loop-paint-init
loop-paint-init g c =
    let graph = c.args.graph.now in
    counting_begins (history graph) graph.proper.falling graph.count c.args.a c.args.b c.args.marks.now c.requires.clear c.requires.first c.requires.second c.requires.held
    (sym (graph_length graph)) c.into_iter-paint-iterator.result (c.into_iter-paint-iterator.ensures.into_iter_gives ∙ c.begin-paint-items.ensures)

pub loop-paint-preserved-in-Left : goal.loop-paint-preserved-in-Left
loop-paint-preserved-in-Left g c =
    counting_left _ c.args.graph.now.proper.falling _ _ _ _ _ _ _ c.in-Some.ensures.steps _ _ c.loop-paint.invariant c.in-Left.is

pub loop-paint-preserved-in-Right : goal.loop-paint-preserved-in-Right
loop-paint-preserved-in-Right g c =
    counting_right _ c.args.graph.now.proper.falling _ _ _ _ _ _ _ c.in-Some.ensures.steps _ _ c.loop-paint.invariant c.in-Right.is

pub loop-paint-preserved : goal.loop-paint-preserved
loop-paint-preserved g c =
    counting_else _ c.args.graph.now.proper.falling _ _ _ _ _ _ _ c.in-Some.ensures.steps _ _ c.loop-paint.invariant c.in_default.not-Left c.in_default.not-Right

pub returns : goal.returns
returns g c = counting_ends _ c.args.graph.now.proper.falling _ _ _ c.loop-paint.paint-iterator c.in-None.ensures.steps.1 _ _ c.loop-paint.invariant
