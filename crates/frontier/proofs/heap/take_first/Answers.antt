use Rattle.std.proofs.Common.{◌-◌, length, ◌∙◌, arith, rules}
use Rattle.std.proofs.lemmas.List.{get_or_default}
use Rattle.frontier.proofs.Fronts.{root_first, take_holds}
use Rattle.frontier.proofs.heap.take_first.Goals as goal

pub returns-clause-first : goal.returns-clause-first
returns-clause-first g c =
    let xs = c.args.heap.now in
    let x = c.index-heap-0.result in
    root_first g.T.Ranked.before g.met.T.Ranked.ordered xs (length xs) x c.requires.queued (λ d. c.index-heap-0.is ∙ get_or_default xs 0 x d (omega arith))

pub returns-clause-holds : goal.returns-clause-holds
returns-clause-holds g c =
    let xs = c.args.heap.now in
    take_holds c.index-heap-0.result xs c.swap.new.self c.sift_down.new.heap _ (length xs - 1) (omega arith) (search rules)
    c.index-heap-0.is c.swap.ensures.by_index c.swap.ensures.permutation c.sift_down.ensures.shuffled
