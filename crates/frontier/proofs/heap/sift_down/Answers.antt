use Rattle.std.proofs.Common.{length, sym, subst}
use Rattle.std.proofs.lemmas.List.Sorted.{IsPermutation-trans}
use Rattle.frontier.specs.Heaps.{Sinking}
use Rattle.frontier.proofs.Sifts.{sink_steps}
use Rattle.frontier.proofs.heap.sift_down.Goals as goal

pub loop-i-preserved : goal.loop-i-preserved
loop-i-preserved g c =
    let xs = c.loop-i.heap in
    let ys = c.swap.new.self in
    let child = c.sooner_child-child.result in
    let inv = c.loop-i.invariant in (
      IsPermutation-trans c.args.heap.now xs ys inv.0 c.swap.ensures.permutation,
      subst (λ n. Sinking g.T.Ranked.before ys n child) (sym c.swap.ensures.len)
          (sink_steps g.T.Ranked.before g.met.T.Ranked.ordered xs (length xs) c.loop-i.i child c.sooner_child-child.ensures ys
          (λ d. sym (c.if-not-sooner.ensures d)) c.swap.ensures.by_index inv.1),
    )
