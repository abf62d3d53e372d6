-- The order by id, put right behind the commits of a load. Assumes nothing.
use Rattle.std.proofs.Common.{◌≡◌, ℕ, ◌<◌, ◌≤◌, true, List, [], length, get_or, take, drop, sym, ap, ◌∙◌, subst, ap₂, subst₂, arith}
use Rattle.frontier.specs.declared.elements.ByLevel.{ByLevel}
use Rattle.graph_file.specs.Encoding.{FileOrder}
use Rattle.graph_reader.specs.Bytes.{told_count}
use Rattle.labels.specs.declared.kind.LabelKind.{Ghosts}
use Rattle.history.specs.declared.graph.CommitGraph.{CommitGraph}
use Rattle.history.specs.Graph.{Filled, Represents}
use Rattle.history.specs.History.{parent_total}
use Rattle.history.specs.Ids.{precedes}
use Rattle.history.specs.Model.{Model}
use Rattle.history.specs.Room.{Reordered}
use Rattle.history.specs.Tables.{Rising, Complete}
use Rattle.graph_file.proofs.FileOrders.{order_unique}
use Rattle.history.proofs.Commits.{filled_of, filled_length, filled_at}
use Rattle.loading.specs.Filling.{Grown, Admitted, holding}
use Rattle.loading.specs.Loads.{Loaded}
use Rattle.loading.proofs.Unique.{described_unique}

-- tables that are filled with a history: its file order is an order by id
module _ {K L : Type 0} {kind : Ghosts K L} (start : ℕ → ℕ → L) (grown : L → L → L) (m : Model) (g : CommitGraph K L kind) (s : Filled start grown m g) (order : List ℕ) (o : FileOrder m.commits order) where
  same_long : length order ≡ g.count
  same_long = o.long ∙ filled_length start grown m g s

  pub order_rises : Rising g.rows.now order g.count
  unfolding same_long
  order_rises i j lt l =
      let full = filled_length start grown m g s in
      let li : i < length order = omega (arith, same_long) in
      let lj : j < length order = omega (arith, same_long) in
      let id = λ (a : ℕ) (held : a < g.count). ap (λ c. c.id) (filled_at start grown m g s a held) in
      subst₂ (λ x y. precedes x y ≡ true) (id (get_or order i 0) (omega (arith, o.held i li))) (id (get_or order j 0) (omega (arith, o.held j lj))) (o.rising i j lt lj)

  pub order_complete : Complete order g.count
  unfolding same_long
  order_complete a lt =
      let q = o.complete a (omega (arith, filled_length start grown m g s)) in (q.0, omega (arith, q.1, same_long), q.2)

module _ {K L : Type 0} {kind : Ghosts K L} (start : ℕ → ℕ → L) (grown : L → L → L) (file : List ℕ) (g h g' : CommitGraph K L kind) (queue queue' : List ByLevel) (places places' list : List ℕ)
    (a : Admitted start grown file g h queue queue' places places') (is : list ≡ take (told_count file) places') (r : Reordered h g' list)
    (represents : (m : Model) → Filled start grown m h → Rising h.rows.now list h.count → Complete list h.count → Represents start grown m g')
    (empty : (m : Model) → Filled start grown m g → m.commits ≡ []) where
  stands : Grown g g'
  stands =
      let t = a.tables in
      let n = r.count in
      record {
        rows = ap₂ (λ k l. drop k l) n r.rows ∙ t.rows ∙ ap (λ k. drop k g.rows.now) (sym n);
        labels = ap₂ (λ k l. drop k l) n r.labels ∙ t.labels ∙ ap (λ k. drop k g.labels.now) (sym n);
        order = ap (λ k. drop k g'.order.now) n ∙ r.behind ∙ t.order ∙ ap (λ k. drop k g.order.now) (sym n);
        parents = ap₂ (λ k l. drop k l) r.used r.parents ∙ t.parents ∙ ap (λ k. drop k g.parents.now) (sym r.used);
        row_room = ap length r.rows ∙ t.row_room;
        label_room = ap length r.labels ∙ t.label_room;
        order_room = r.long ∙ t.order_room;
        parent_room = ap length r.parents ∙ t.parent_room;
      }

  pub loaded : Loaded start grown file g g' queue queue' places places'
  unfolding stands
  loaded =
      record {
        count = r.count ∙ a.count;
        tables = stands;
        later_queue = a.queue_rest;
        later_places = a.places_rest;
        history = λ m s.
            let f = filled_of start grown m g s in
            let q = a.filled m f (empty m f) in
            let o = subst (FileOrder q.0) (sym is) q.2.ordered in
            let few : length q.0 ≤ 65536 = omega (arith, filled_length start grown (holding m q.0) h q.1, h.few) in
            let short : parent_total q.0 ≤ 262144 = omega (arith, q.1.listed, h.short) in (
              q.0,
              represents (holding m q.0) q.1 (order_rises start grown (holding m q.0) h q.1 list o) (order_complete start grown (holding m q.0) h q.1 list o),
              record { described = q.2; few = few; listed = short; filed_once = λ order' o'. order_unique q.0 order' (take (told_count file) places') o' q.2.ordered; sole = λ h' order' few' short' d. described_unique file h' q.0 order' (take (told_count file) places') few' short' few short d q.2 },
            );
      }
