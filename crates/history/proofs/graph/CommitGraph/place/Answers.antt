use Rattle.std.proofs.Common.{◌≡◌, true, false, length, sym, ap, subst, rules, tests, arith}
use Rattle.std.proofs.lemmas.List.{length-take-le}
use Rattle.std.specs.List.Sorted.{IsPartitionPoint, IsPartitionedBy}
use Rattle.std.proofs.lemmas.List.Sorted.{IsPartitionPoint-from_clause}
use Rattle.history.proofs.Finding.{comes, parted, splits_at}
use Rattle.history.proofs.graph.CommitGraph.place.Goals as goal

pub returns-clause-splits : goal.returns-clause-splits
returns-clause-splits g c = λ rising.
    let b = c.args.self.now in
    let rows = b.rows.now in
    let order = b.order.now in
    let n = b.count in
    let id = c.args.id.bytes in
    let before = comes rows order n id rising b.within b.listed in
    let place = c.partition_point.result in
    let is = c.by_id.ensures in
    splits_at rows order n id rising b.within b.listed place (omega (arith, ap length is, length-take-le n order b.listed))
    (subst (λ l. IsPartitionPoint (λ a. before a ≡ true) (λ a. before a ≡ false) l place) is
    (IsPartitionPoint-from_clause before c.by_id.result.now place c.partition_point.ensures.partitioned
    (subst (IsPartitionedBy before) (sym is) (parted rows order n id rising b.within b.listed)) (λ a r f k. search (rules, tests))))
