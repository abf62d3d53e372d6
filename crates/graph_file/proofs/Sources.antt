-- What the tables say without more, of the commits in the file's order. Assumes nothing.
use Rattle.std.proofs.Common.{◌≡◌, ℕ, ◌+◌, ◌-◌, ◌<◌, ◌≤◌, ltb, List, [], ◌∷◌, length, get_or, take, sym, refl, ap, ◌∙◌, subst, arith}
use Rattle.std.proofs.lemmas.List.Edits.{length-between}
use Rattle.std.specs.List.{sum_by}
use Rattle.std.proofs.lemmas.List.Elements.{All-from_get_or}
use Rattle.std.proofs.lemmas.List.Sums.{sum_by-cons, sum_by_more, sum_by-take-le, sum_by-le}
use Rattle.std.proofs.lemmas.List.{get_or-take, length-take-le}
use Rattle.std.proofs.lemmas.Bool.{cond_both}
use Rattle.labels.specs.declared.kind.LabelKind.{Ghosts}
use Rattle.history.specs.declared.graph.CommitGraph.{CommitGraph}
use Rattle.history.specs.Graph.{history}
use Rattle.history.specs.History.{Commit, parents_of}
use Rattle.history.specs.Tables.{row_of}
use Rattle.history.proofs.Commits.{commit_at}
use Rattle.graph_file.specs.Encoding.{extra}
use Rattle.graph_file.specs.Placing.{Held, extras, listed}

pub extra_bound : (ps : List ℕ) → extra ps ≤ length ps
extra_bound ps = cond_both (ltb 2 (length ps)) (length ps - 1) 0 (λ x. x ≤ length ps) (λ _. omega arith) (λ _. omega arith)

module _ (h : List Commit) where
  pub extras_sum : (ns : List ℕ) → extras h ns ≡ sum_by (λ n. extra (parents_of h n)) ns
  extras_sum [] = refl
  extras_sum (n ∷ ns) =
      ap (λ k. extra (parents_of h n) + k) (extras_sum ns) ∙ sym (sum_by-cons (λ m. extra (parents_of h m)) n ns)

  pub extras_more : (ns : List ℕ) (i : ℕ) → i < length ns → extras h (take (i + 1) ns) ≡ extras h (take i ns) + extra (parents_of h (get_or ns i 0))
  extras_more ns i lt =
      extras_sum (take (i + 1) ns) ∙ sum_by_more (λ n. extra (parents_of h n)) ns i 0 lt
      ∙ ap (λ k. k + extra (parents_of h (get_or ns i 0))) (sym (extras_sum (take i ns)))

  -- what comes with one entry more is within the whole
  pub extras_room : (ns : List ℕ) (i : ℕ) → extras h (take i ns) ≤ extras h ns
  extras_room ns i =
      omega (arith, extras_sum (take i ns), extras_sum ns, sum_by-take-le (λ n. extra (parents_of h n)) ns i)

module _ {K L : Type 0} {kind : Ghosts K L} (g : CommitGraph K L kind) where
  pub length_listed : length (listed g) ≡ g.count
  length_listed = length-take-le g.count g.order.now g.listed

  pub number_listed : (i n : ℕ) → i < g.count → n ≡ get_or g.order.now i 0 → n ≡ get_or (listed g) i 0
  number_listed i n lt e = e ∙ sym (get_or-take g.count g.order.now i 0 lt)

  -- the numbers in the order are those of commits
  pub numbers_held : (i : ℕ) → i < length (listed g) → get_or (listed g) i 0 < g.count
  numbers_held i lt =
      subst (λ n. n < g.count) (number_listed i (get_or g.order.now i 0) (omega (arith, length_listed)) refl) (g.within i (omega (arith, length_listed)))

  pub few_parents : (n : ℕ) → n < g.count → length (parents_of (history g) n) ≤ 262144
  few_parents n lt =
      let rows = g.rows.now in
      let parents = g.parents.now in
      let r = row_of rows n in
      let inside = g.inside n lt in
      let long = ap (λ x. length x.parents) (commit_at rows parents g.count g.rowed n lt)
      ∙ length-between parents r.from (r.from + r.size) (omega (arith, g.parented)) in
      omega (arith, long, g.short)

  pub parents_held : (n j : ℕ) → n < g.count → j < length (parents_of (history g) n) → get_or (parents_of (history g) n) j 0 < g.count
  parents_held n j lt l = omega (arith, g.proper.falling n (get_or (parents_of (history g) n) j 0) (j, l, refl))

  few_at : (n : ℕ) → n < g.count → extra (parents_of (history g) n) ≤ 262144
  few_at n lt = omega (arith, extra_bound (parents_of (history g) n), few_parents n lt)

  pub few_edges : sum_by (λ n. extra (parents_of (history g) n)) (listed g) ≤ 17179869184
  unfolding few_at
  few_edges =
      omega (
        arith,
        length_listed,
        g.few,
        sum_by-le (λ n. extra (parents_of (history g) n)) 262144 (listed g)
            (All-from_get_or (λ n. extra (parents_of (history g) n) ≤ 262144) (listed g) 0 (λ i lt. few_at (get_or (listed g) i 0) (numbers_held i lt))),
      )

  -- the commit at a place in the order, with its parents
  module _ (ns : List ℕ) (all : ns ≡ listed g) (place : ℕ) (lt : place < length ns) where
    pub next_within : place < g.count
    next_within = omega (arith, lt, ap length all, length_listed)

    pub next_number : get_or ns place 0 < g.count
    next_number =
        subst (λ l. get_or l place 0 < g.count) (sym all) (numbers_held place (omega (arith, lt, ap length all)))

    module _ (ps : List ℕ) (its : ps ≡ parents_of (history g) (get_or ns place 0)) where
      pub next_held : Held g ps
      next_held =
          subst (Held g) (sym its)
          (All-from_get_or (λ p. p < g.count) (parents_of (history g) (get_or ns place 0)) 0 (λ k l. parents_held (get_or ns place 0) k next_number l))

      pub next_few : extra ps ≤ 262144
      unfolding few_at
      next_few = omega (arith, ap extra its, few_at (get_or ns place 0) next_number)

      pub next_extras : extras (history g) (take (place + 1) (listed g)) ≡ extras (history g) (take place (listed g)) + extra ps
      next_extras =
          extras_more (history g) (listed g) place (omega (arith, lt, ap length all))
          ∙ ap (λ l. extras (history g) (take place (listed g)) + extra l) (ap (λ l. parents_of (history g) (get_or l place 0)) (sym all) ∙ sym its)

      pub next_room : extras (history g) (take place (listed g)) + extra ps ≤ extras (history g) (listed g)
      next_room = omega (arith, next_extras, extras_room (history g) (listed g) (place + 1))
