use Rattle.std.proofs.Common.{◌≡◌, ℕ, ◌<◌, get_or, sym, ap, ◌∙◌, subst, arith}
use Rattle.history.specs.Graph.{Represents}
use Rattle.history.specs.History.{Commit}
use Rattle.history.specs.Model.{with_commit}
use Rattle.history.specs.Tables.{row_of, Rising, Complete}
use Rattle.history.proofs.Commits.{represented_length, represented_at}
use Rattle.history.proofs.Finding.{none_absent}
use Rattle.history.proofs.Refusing.{accepted_fresh}
use Rattle.history.proofs.graph.CommitGraph.add.Goals as goal

pub returns-clause-represents : goal.returns-clause-represents
returns-clause-represents g c = λ m s.
    let k = g.K.LabelKind in
    let b = c.args.self.now in
    let rows = b.rows.now in
    let order = b.order.now in
    let id = c.args.id.bytes in
    let commit : Commit = record { id = id; tree = c.args.tree.bytes; date = c.args.date; parents = c.args.parents.now } in
    let free = c.in_ok-admits.ensures.refusal m s in
    let fresh = accepted_fresh m commit (sym free) in
    let after = c.append_at.new.self in
    let placed = c.append_at.ensures.order in
    let more = sym c.append_at.ensures.tables.count in
    let long = represented_length k.start k.grown m b s in
    let new_id : (i : ℕ) → i < b.count → (row_of rows (get_or order i 0)).id.bytes ≡ id → ⊥ = λ i lt e.
    let held = b.within i lt in
    none_absent m.commits 0 id fresh (get_or order i 0) (omega arith) (ap (λ x. x.id) (represented_at k.start k.grown m b s (get_or order i 0) held) ∙ e) in
    subst (λ o. Represents k.start k.grown (with_commit m commit o) after) free
    record {
      filled = c.append_at.ensures.filled m s.filled fresh;
      rising = subst (Rising after.rows.now after.order.now) more (placed.rising s.rising (c.place-place.ensures.splits s.rising) new_id);
      complete = subst (Complete after.order.now) more (placed.complete s.complete);
    }
