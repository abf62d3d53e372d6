-- Tables that hold a history in the file's order: what is read of them. Assumes nothing.
use Rattle.std.proofs.Common.{◌≡◌, ℕ, zero, suc, ◌+◌, ◌*◌, ◌/◌, ◌<◌, ◌≤◌, true, List, [], ◌∷◌, length, get_or, take, sym, refl, ap, ◌∙◌, subst, ap₂, ⊎_elim, arith}
use Rattle.std.proofs.lemmas.List.{get_or-map, length-map}
use Rattle.std.proofs.lemmas.Bool.{cases_order, eq-eqb, ne_eqb, cond-true, cond-false, both_ways}
use Rattle.labels.specs.declared.kind.LabelKind.{Ghosts}
use Rattle.history.specs.declared.graph.CommitGraph.{CommitGraph}
use Rattle.history.specs.declared.row.CommitRow.{CommitRow}
use Rattle.history.specs.Generations.{levels_of}
use Rattle.history.specs.Graph.{history}
use Rattle.history.specs.History.{Commit, commit_of, parents_of}
use Rattle.history.specs.Ids.{precedes}
use Rattle.history.specs.Order.{Splits}
use Rattle.history.specs.Tables.{no_row, row_of, commit}
use Rattle.history.proofs.Commits.{commit_at, graph_length}
use Rattle.history.proofs.Ids.{not_before_itself}
use Rattle.history.proofs.Lists.{get_d_map_take}
use Rattle.graph_file.specs.Encoding.{FileOrder, position}
use Rattle.graph_file.specs.Placing.{Filed, extras, listed, ids_of}
use Rattle.graph_file.proofs.Sources.{length_listed, number_listed, next_within, next_number}

-- the position is the first place of the number
pub position_at : (order : List ℕ) (i n : ℕ) → i < length order → get_or order i 0 ≡ n → ((j : ℕ) → j < i → get_or order j 0 ≡ n → ⊥) → position order n ≡ i
position_at [] i n lt e first = absurd (omega arith)
position_at (m ∷ order) zero n lt e first = cond-true _ _ _ (eq-eqb m n e)
position_at (m ∷ order) (suc i) n lt e first =
    cond-false _ _ _ (ne_eqb m n (first 0 (omega arith)))
    ∙ ap suc (position_at order i n (omega arith) e (λ j l. first (suc j) (omega arith)))

module _ (h : List Commit) (order : List ℕ) (s : FileOrder h order) where
  abbrev id_at : ℕ → List ℕ
  id_at i = (commit_of h (get_or order i 0)).id

  -- two places do not have one number
  twice : (i j n : ℕ) → i < j → j < length order → get_or order i 0 ≡ n → get_or order j 0 ≡ n → ⊥
  twice i j n l lt p q =
      let same = p ∙ sym q in
      both_ways (precedes (id_at j) (id_at j)) (not_before_itself (id_at j))
      (subst (λ a. precedes (commit_of h a).id (id_at j) ≡ true) same (s.rising i j l lt))

  pub ordered_position : (i n : ℕ) → i < length order → get_or order i 0 ≡ n → position order n ≡ i
  unfolding twice
  ordered_position i n lt e = position_at order i n lt e (λ j l p. twice j i n l lt p e)

  pub ids_rising : (i j : ℕ) → i < j → j < length (ids_of h order) → precedes (get_or (ids_of h order) i []) (get_or (ids_of h order) j []) ≡ true
  ids_rising i j l lt =
      let long = length-map order (λ n. (commit_of h n).id) in
      let at_j : get_or (ids_of h order) j [] ≡ id_at j = get_or-map (λ n. (commit_of h n).id) order j 0 [] (omega arith) in
      let at_i : get_or (ids_of h order) i [] ≡ id_at i = get_or-map (λ n. (commit_of h n).id) order i 0 [] (omega arith) in
      subst (λ x. precedes (get_or (ids_of h order) i []) x ≡ true) (sym at_j)
      (subst (λ x. precedes x (id_at j) ≡ true) (sym at_i) (s.rising i j l (omega arith)))

  pub each_wide : ((a : ℕ) → a < length h → (length (commit_of h a).id ≡ 20) × (length (commit_of h a).tree ≡ 20)) →
      (k : ℕ) → k < length (ids_of h order) → length (get_or (ids_of h order) k []) ≡ 20
  each_wide wide k lt =
      let long = length-map order (λ n. (commit_of h n).id) in
      ap length (get_or-map (λ n. (commit_of h n).id) order k 0 [] (omega arith)) ∙ (wide (get_or order k 0) (s.held k (omega arith))).0

module _ {K L : Type 0} {kind : Ghosts K L} (g : CommitGraph K L kind) (h : List Commit) (order : List ℕ) (s : Filed g h order) where
  pub filed_length : length order ≡ g.count
  filed_length = sym (ap length s.sorted) ∙ length_listed g

  pub ids_length : length (ids_of h order) ≡ g.count
  ids_length = length-map order (λ n. (commit_of h n).id) ∙ filed_length

  pub filed_held : length h ≡ g.count
  filed_held = sym (ap length s.commits) ∙ graph_length g

  pub filed_number : (ns : List ℕ) → ns ≡ listed g → (i : ℕ) → get_or ns i 0 ≡ get_or order i 0
  filed_number ns all i = ap (λ l. get_or l i 0) (all ∙ s.sorted)

  pub filed_commit : (n : ℕ) → n < g.count → commit_of h n ≡ commit g.parents.now (row_of g.rows.now n)
  filed_commit n lt = sym (ap (λ l. commit_of l n) s.commits) ∙ commit_at g.rows.now g.parents.now g.count g.rowed n lt

  pub filed_level : (n : ℕ) → n < g.count → get_or (levels_of h) n 0 ≡ (row_of g.rows.now n).level
  filed_level n lt =
      sym (ap (λ l. get_or l n 0) s.levels) ∙ get_d_map_take (λ r. r.level) g.rows.now g.count n no_row 0 g.rowed lt

  -- the id that is read at a place
  pub filed_id : (ns : List ℕ) (all : ns ≡ listed g) (i : ℕ) → i < length ns → (row_of g.rows.now (get_or ns i 0)).id.bytes ≡ get_or (ids_of h order) i []
  filed_id ns all i lt =
      sym (ap (λ x. x.id) (filed_commit (get_or ns i 0) (next_number g ns all i lt))) ∙ ap (λ a. (commit_of h a).id) (filed_number ns all i)
      ∙ sym (get_or-map (λ a. (commit_of h a).id) order i 0 [] (omega (arith, next_within g ns all i lt, filed_length)))

  pub ids_wide : (k : ℕ) → k < length (ids_of h order) → length (get_or (ids_of h order) k []) ≡ 20
  ids_wide = each_wide h order s.ordered s.wide

  -- how many ids come before that of a commit is its position
  pub place_is_position : (n place : ℕ) → n < g.count → place ≤ g.count →
      Splits g.rows.now g.order.now g.count (row_of g.rows.now n).id.bytes place place → place ≡ position order n
  place_is_position n place lt le splits =
      let rows = g.rows.now in
      let items = g.order.now in
      let id = (row_of rows n).id.bytes in
      let long = filed_length in
      let q = s.ordered.complete n (omega (arith, filed_held)) in
      let i = q.0 in
      let li : i < g.count = omega (arith, q.1) in
      let number : get_or items i 0 ≡ n = number_listed g i (get_or items i 0) li refl ∙ filed_number (listed g) refl i ∙ q.2 in
      let same : (row_of rows (get_or items i 0)).id.bytes ≡ id = ap (λ a. (row_of rows a).id.bytes) number in
      let there : place ≡ i =
      ⊎_elim (λ e. e) (λ d. absurd (⊎_elim
      (λ low. both_ways (precedes (row_of rows (get_or items place 0)).id.bytes id) (splits.after place (omega arith) (omega arith))
      (subst (λ x. precedes (row_of rows (get_or items place 0)).id.bytes x ≡ true) same (s.rising place i low li)))
      (λ high. both_ways (precedes id id) (not_before_itself id) (subst (λ x. precedes x id ≡ true) same (splits.before i high)))
      d)) (cases_order place i) in
      there ∙ sym (ordered_position h order s.ordered i n q.1 q.2)

  pub filed_extras : (i : ℕ) → extras (history g) (take i (listed g)) ≡ extras h (take i order)
  filed_extras i = ap₂ (λ l ns. extras l (take i ns)) s.commits s.sorted

  pub filed_parents : (n : ℕ) (ps : List ℕ) → ps ≡ parents_of (history g) n → ps ≡ parents_of h n
  filed_parents n ps e = e ∙ ap (λ l. parents_of l n) s.commits

  pub filed_tree : (n : ℕ) (row : CommitRow) → n < g.count → row ≡ row_of g.rows.now n → row.tree.bytes ≡ (commit_of h n).tree
  filed_tree n row lt e = ap (λ r. r.tree.bytes) e ∙ sym (ap (λ c. c.tree) (filed_commit n lt))

  pub filed_wide : (n : ℕ) (row : CommitRow) → n < g.count → row ≡ row_of g.rows.now n → length row.tree.bytes ≡ 20
  filed_wide n row lt e = ap length (filed_tree n row lt e) ∙ (s.wide n (omega (arith, filed_held))).1

  pub filed_date : (n : ℕ) (row : CommitRow) → n < g.count → row ≡ row_of g.rows.now n → row.date ≡ (commit_of h n).date
  filed_date n row lt e = ap (λ r. r.date) e ∙ sym (ap (λ c. c.date) (filed_commit n lt))

  pub filed_generation : (n : ℕ) (row : CommitRow) → n < g.count → row ≡ row_of g.rows.now n →
      row.level * 4 + row.date / 4294967296 ≡ get_or (levels_of h) n 0 * 4 + (commit_of h n).date / 4294967296
  filed_generation n row lt e =
      ap₂ (λ x y. x * 4 + y / 4294967296) (ap (λ r. r.level) e ∙ sym (filed_level n lt)) (filed_date n row lt e)
