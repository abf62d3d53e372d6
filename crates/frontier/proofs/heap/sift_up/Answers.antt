use Rattle.std.proofs.Common.{length, sym, subst, arith}
use Rattle.std.proofs.lemmas.List.Sorted.{IsPermutation-trans}
use Rattle.frontier.specs.Heaps.{parent}
use Rattle.frontier.proofs.Sifts.{Rising, rise_steps}
use Rattle.frontier.proofs.heap.sift_up.Goals as goal

pub loop-i-preserved : goal.loop-i-preserved
loop-i-preserved g c =
    let xs = c.loop-i.heap in
    let ys = c.swap.new.self in
    let inv = c.loop-i.invariant in (
      omega arith,
      IsPermutation-trans c.args.heap.now xs ys inv.1 c.swap.ensures.permutation,
      subst (λ n. Rising g.T.Ranked.before ys n (parent c.loop-i.i)) (sym c.swap.ensures.len)
          (rise_steps g.T.Ranked.before g.met.T.Ranked.ordered xs (length xs) c.loop-i.i ys c.loop-i-test.true inv.0
          (λ d. sym (c.if-not-sooner.ensures d)) c.swap.ensures.by_index inv.2),
    )
