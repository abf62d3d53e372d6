use Rattle.std.proofs.Common.{◌≡◌, ℕ, ◌<◌, List, get_or, sym, ap, ◌∙◌, arith}
use Rattle.std.specs.Cmp.Lexicographic.{same_text, other_text}
use Rattle.labels.specs.declared.kind.LabelKind.{Ghosts}
use Rattle.history.specs.declared.graph.CommitGraph.{CommitGraph}
use Rattle.history.specs.Graph.{Represents}
use Rattle.history.specs.Model.{Model}
use Rattle.history.specs.Order.{Splits}
use Rattle.history.specs.Tables.{row_of}
use Rattle.history.proofs.Commits.{represented_length, represented_at}
use Rattle.history.proofs.Finding.{Absent, not_there, found_none, found_one}
use Rattle.history.proofs.graph.CommitGraph.find.Goals as goal

-- an id that is not at its place is the id of no commit
absent : {K L : Type 0} {kind : Ghosts K L} (start : ℕ → ℕ → L) (grown : L → L → L) (m : Model) (g : CommitGraph K L kind) (s : Represents start grown m g) (id : List ℕ) (place : ℕ) →
    Splits g.rows.now g.order.now g.count id place place →
    (place < g.count → (row_of g.rows.now (get_or g.order.now place 0)).id.bytes ≡ id → ⊥) → Absent m.commits id
absent start grown m g s id place splits other_id a lt e =
    let rows = g.rows.now in
    let order = g.order.now in
    let long = represented_length start grown m g s in
    let held : a < g.count = omega arith in
    let q = s.complete a held in
    not_there rows order g.count id s.rising place splits other_id q.0 q.1
    (ap (λ x. (row_of rows x).id.bytes) q.2 ∙ sym (ap (λ x. x.id) (represented_at start grown m g s a held)) ∙ e)

pub returns-then-place-self : goal.returns-then-place-self
returns-then-place-self g c = λ m s.
    let k = g.K.LabelKind in
    let id = c.args.id.bytes in
    sym (found_none m.commits 0 id (absent k.start k.grown m c.args.self.now s id c.place-place.result (c.place-place.ensures.splits s.rising)
    (λ lt e. absurd (omega arith))))

pub returns-else-eq : goal.returns-else-eq
returns-else-eq g c = λ m s.
    let k = g.K.LabelKind in
    let b = c.args.self.now in
    let id = c.args.id.bytes in
    let row = ap (λ i. i.bytes) c.id_at.ensures ∙ ap (λ n. (row_of b.rows.now n).id.bytes) c.number_at-number.ensures.value in
    sym (found_none m.commits 0 id (absent k.start k.grown m b s id c.place-place.result (c.place-place.ensures.splits s.rising)
    (λ lt e. other_text c.id_at.result.bytes id c.if-eq.ensures (row ∙ e))))

pub returns-then-eq : goal.returns-then-eq
returns-then-eq g c = λ m s.
    let k = g.K.LabelKind in
    let b = c.args.self.now in
    let id = c.args.id.bytes in
    let number = c.number_at-number.result in
    let held = c.number_at-number.ensures.held in
    let long = represented_length k.start k.grown m b s in
    sym (found_one m.commits number id s.filled.wellformed (omega arith)
    (ap (λ x. x.id) (represented_at k.start k.grown m b s number held) ∙ sym (ap (λ i. i.bytes) c.id_at.ensures) ∙ same_text c.id_at.result.bytes id c.if-eq.ensures))
