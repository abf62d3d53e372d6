use Rattle.std.proofs.Common.{◌≤◌, sym, ap, subst, ◌∙◌, arith}
use Rattle.std.specs.List.{sum_by}
use Rattle.history.specs.Graph.{history}
use Rattle.history.specs.History.{parents_of}
use Rattle.graph_file.specs.Encoding.{extra}
use Rattle.graph_file.specs.Placing.{listed}
use Rattle.graph_file.proofs.Sources.{extras_sum, few_edges}
use Rattle.graph_file.proofs.sizes.Sizes.of.Goals as goal

pub edges_of-edges-requires-clause-small : goal.edges_of-edges-requires-clause-small
edges_of-edges-requires-clause-small g c =
    let b = c.args.graph.now in
    subst (λ ns. sum_by (λ n. extra (parents_of (history b) n)) ns ≤ 17179869184) (sym c.by_id.ensures) (few_edges b)

pub invariant_of-result : goal.invariant_of-result
invariant_of-result g c =
    let b = c.args.graph.now in
    record {
      few = omega (arith, c.held-commits.ensures, b.few);
      short = omega (arith, c.edges_of-edges.ensures, ap (sum_by (λ n. extra (parents_of (history b) n))) c.by_id.ensures, few_edges b);
    }

pub returns-clause-edges : goal.returns-clause-edges
returns-clause-edges g c =
    let b = c.args.graph.now in
    c.edges_of-edges.ensures ∙ ap (sum_by (λ n. extra (parents_of (history b) n))) c.by_id.ensures ∙ sym (extras_sum (history b) (listed b))
