use Rattle.std.proofs.Common.{◌∙◌, rules, arith}
use Rattle.std.specs.List.{range_with_len}
use Rattle.std.proofs.lemmas.Iterator.{YieldsList-from_range, YieldsList-from_map}
use Rattle.std.proofs.lemmas.Iterator.Consumers.{sum_by_from_yields_List, fits_by_from_yields_list}
use Rattle.graph_reader.proofs.Sources.{listed_at, total_told, total_few}
use Rattle.graph_reader.proofs.file.GraphFile.parent_total.Goals as goal

pub sum-requires-clause-fits : goal.sum-requires-clause-fits
sum-requires-clause-fits c =
    let f = c.args.self.now in
    let n = c.count.result in
    fits_by_from_yields_list (listed_at f) (range_with_len 0 n) c.map.result 18446744073709551616
    (YieldsList-from_map _ (listed_at f) (YieldsList-from_range 0 n n c.map.ensures.source (omega arith)) c.map.ensures.closure (λ x r q k. search rules))
    (omega (arith, total_few f n c.count.ensures))

pub returns : goal.returns
returns c =
    let f = c.args.self.now in
    let n = c.count.result in
    let told =
    sum_by_from_yields_List (listed_at f) (range_with_len 0 n) c.map.result c.sum.result c.sum.ensures.ran
    (YieldsList-from_map _ (listed_at f) (YieldsList-from_range 0 n n c.map.ensures.source (omega arith)) c.map.ensures.closure (λ x r q k. search rules)) in
    record {
      few = omega (arith, told, total_few f n c.count.ensures);
      told = told ∙ total_told f n c.count.ensures;
    }
