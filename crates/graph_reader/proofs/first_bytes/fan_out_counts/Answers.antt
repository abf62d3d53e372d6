use Rattle.std.proofs.Common.{ℕ, ◌+◌, ◌≤◌, eqb, List, [], ◌∷◌, length, get_or, arith}
use Rattle.std.proofs.lemmas.Bool.{cond_both}
use Rattle.graph_reader.specs.ChunkFaults.{begun_by}
use Rattle.graph_reader.proofs.first_bytes.fan_out_counts.Goals as goal

begun_most : (ids : List (List ℕ)) (i : ℕ) → begun_by ids i ≤ length ids
begun_most [] i = omega arith
begun_most (id ∷ ids) i =
    let rest = begun_most ids i in
    cond_both (eqb (get_or id 0 0) i) 1 0 (λ n. n + begun_by ids i ≤ length (id ∷ ids)) (λ _. omega arith) (λ _. omega arith)

pub sum_up-requires : goal.sum_up-requires
sum_up-requires c = λ i lt. omega (arith, c.tally.ensures i lt, begun_most c.args.ids.now i, c.requires)
