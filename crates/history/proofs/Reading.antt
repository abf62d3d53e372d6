-- A row of the tables describes its commit. Assumes nothing.
use Rattle.std.proofs.Common.{ℕ, ◌<◌, get_or, sym, ap, ◌∙◌, subst, arith}
use Rattle.labels.specs.declared.kind.LabelKind.{Ghosts}
use Rattle.history.specs.declared.graph.CommitGraph.{CommitGraph}
use Rattle.history.specs.Generations.{root_date, Level, CorrectedDate}
use Rattle.history.specs.Graph.{history}
use Rattle.history.specs.Reading.{Describes}
use Rattle.history.specs.Tables.{no_row, row_of}
use Rattle.history.proofs.Chains.{greatest}
use Rattle.history.proofs.Commits.{commit_at, graph_length}
use Rattle.history.proofs.Lists.{get_d_map_take}

module _ {K L : Type 0} {kind : Ghosts K L} (g : CommitGraph K L kind) where
  pub described : (n : ℕ) → n < g.count → Describes (history g) n (row_of g.rows.now n)
  described n lt =
      let h = history g in
      let rows = g.rows.now in
      let long = graph_length g in
      let at = commit_at rows g.parents.now g.count g.rowed n lt in
      record {
        held = omega arith;
        id = sym (ap (λ x. x.id) at);
        tree = sym (ap (λ x. x.tree) at);
        date = sym (ap (λ x. x.date) at);
        level = subst (Level h n)
            (sym (ap (λ l. get_or l n 0) g.computed.levels) ∙ get_d_map_take (λ r. r.level) rows g.count n no_row 0 g.rowed lt)
            (greatest h g.proper.falling (λ _. 1) n (omega arith));
        corrected = subst (CorrectedDate h n)
            (sym (ap (λ l. get_or l n 0) g.computed.corrected) ∙ get_d_map_take (λ r. r.corrected) rows g.count n no_row 0 g.rowed lt)
            (greatest h g.proper.falling root_date n (omega arith));
      }
