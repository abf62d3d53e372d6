-- The parents of a history are read back from the words that name them. Assumes nothing.
use Rattle.std.proofs.Common.{◌≡◌, ℕ, suc, ◌+◌, ◌-◌, ◌<◌, ◌≤◌, ◌&&◌, eqb, ltb, leb, List, [], ◌∷◌, ◌++◌, map, length, get_or, drop, Ok, Result, refl, ap, ◌∙◌, ap₂, arith}
use Rattle.std.specs.List.{flat_map}
use Rattle.std.proofs.lemmas.List.{length-map, get_or-map, drop_at}
use Rattle.std.proofs.lemmas.Bool.{lt-ltb, le-ltb, le-leb, lt-leb, eq-eqb, ne_eqb, and_from, cond-true, cond-false}
use Rattle.history.specs.History.{Commit, parents_of, Wellformed}
use Rattle.graph_file.specs.Encoding.{FileOrder, position, positions, edges_from, rows_from, layout_of}
use Rattle.graph_file.specs.Layout.{has_edges}
use Rattle.graph_file.specs.Encoding.{extra}
use Rattle.graph_file.specs.ParentWords.{no_parent, mark, closed_words, edge_words, first_parent_word, second_parent_word}
use Rattle.graph_file.proofs.PositionWords.{length_edges, extra_positions, edges_by_positions, first_by_positions, second_by_positions}
use Rattle.graph_file.proofs.Filing.{ordered_position}
use Rattle.graph_reader.specs.Parents.{led_by, went_on, listed_from, others_of, parents_by, parents_from}
use Rattle.graph_reader.proofs.ParentCodes.{Held}

-- the words of one commit are passed over
pub drop_edges : (ps rest : List ℕ) → drop (extra ps) (edge_words ps ++ rest) ≡ rest
drop_edges ps rest = drop_at (edge_words ps) rest (extra ps) (length_edges ps)

module _ (count cdat edge : ℕ) (few : count ≤ 65536) where
  pub listed_closed : (ps rest : List ℕ) (at k : ℕ) → 0 < length ps → 1 < k + length ps → k + length ps ≤ 63 → Held count ps →
      listed_from count cdat edge at k (closed_words ps ++ rest) ≡ Ok ps
  listed_closed [] rest at k some long short held = absurd (omega arith)
  listed_closed (p ∷ []) rest at k some long short held =
      let low : p < count = held 0 (omega arith) in
      let w = mark + p in
      cond-false _ _ _ (lt-leb 63 k (omega arith))
      ∙ cond-false _ _ _ (le-ltb w count (omega arith))
      ∙ cond-true _ _ _ (and_from (ltb 0 k) (leb mark w && ltb (w - mark) count) (lt-ltb 0 k (omega arith))
      (and_from (leb mark w) (ltb (w - mark) count) (le-leb mark w (omega arith)) (lt-ltb (w - mark) count (omega arith))))
      ∙ ap (λ x. Ok (x ∷ [])) (let e : w - mark ≡ p = omega arith in e)
  listed_closed (p ∷ (q ∷ ps)) rest at k some long short held =
      cond-false _ _ _ (lt-leb 63 k (omega arith))
      ∙ cond-true _ _ _ (lt-ltb p count (held 0 (omega arith)))
      ∙ ap (led_by p) (listed_closed (q ∷ ps) rest (suc at) (suc k) (omega arith) (omega arith) (omega arith) (λ j lt. held (suc j) (omega arith)))

  -- a position is no mark, so the first word leads to the others
  first_read : (a p next second : ℕ) (unused ps : List ℕ) → a < count → others_of count cdat edge p next second unused ≡ Ok ps →
      parents_by count cdat edge p next a second unused ≡ Ok (a ∷ ps)
  first_read a p next second unused ps low e =
      cond-false _ _ _ (ne_eqb a no_parent (λ s. omega arith)) ∙ cond-true _ _ _ (lt-ltb a count low) ∙ ap (led_by a) e

  pub words_read : (ps rest : List ℕ) (p next : ℕ) → length ps ≤ 64 → Held count ps →
      parents_by count cdat edge p next (first_parent_word ps) (second_parent_word next ps) (edge_words ps ++ rest) ≡ Ok ps
  unfolding first_read
  words_read [] rest p next short held = refl
  words_read (a ∷ []) rest p next short held = first_read a p next no_parent rest [] (held 0 (omega arith)) refl
  words_read (a ∷ (b ∷ [])) rest p next short held =
      let low : b < count = held 1 (omega arith) in
      first_read a p next b rest (b ∷ []) (held 0 (omega arith))
      (cond-false _ _ _ (ne_eqb b no_parent (λ s. omega arith)) ∙ cond-true _ _ _ (lt-ltb b count low))
  words_read (a ∷ (b ∷ (c ∷ ps))) rest p next short held =
      let qs = b ∷ (c ∷ ps) in
      let w = mark + next in
      ap (λ ws. parents_by count cdat edge p next a w (ws ++ rest)) (cond-true (ltb 1 (length qs)) (closed_words qs) [] (lt-ltb 1 (length qs) (omega arith)))
      ∙ first_read a p next w (closed_words qs ++ rest) qs (held 0 (omega arith))
      (cond-false _ _ _ (ne_eqb w no_parent (λ s. omega arith)) ∙ cond-false _ _ _ (le-ltb w count (omega arith))
      ∙ cond-true _ _ _ (and_from (eqb w w) (has_edges (closed_words qs ++ rest)) (eq-eqb w w refl) refl)
      ∙ listed_closed qs rest next 0 (omega arith) (omega arith) (omega arith) (λ j lt. held (suc j) (omega arith)))

module _ (h : List Commit) (order : List ℕ) where
  -- the parents of a commit, as the file names them
  abbrev pub named_parents : ℕ → List ℕ
  named_parents n = positions order (parents_of h n)

  pub length_named : (n : ℕ) → length (named_parents n) ≡ length (parents_of h n)
  length_named n = length-map (parents_of h n) (position order)

  module _ (s : FileOrder h order) where
    -- the position of a commit is where the order has it
    pub position_holds : (a : ℕ) → a < length h → (position order a < length order) × (get_or order (position order a) 0 ≡ a)
    position_holds a lt =
        let q = s.complete a lt in
        let e = ordered_position h order s q.0 a q.1 q.2 in
        (omega (arith, e, q.1), ap (λ i. get_or order i 0) e ∙ q.2)

    module _ (w : Wellformed h) where
      pub named_held : (n : ℕ) → n < length h → Held (length h) (named_parents n)
      named_held n lt j l =
          let ps = parents_of h n in
          let inside : j < length ps = omega (arith, length_named n) in
          let less : get_or ps j 0 < n = w.falling n (get_or ps j 0) (j, inside, refl) in
          omega (arith, get_or-map (position order) ps j 0 0 inside, (position_holds (get_or ps j 0) (omega arith)).0, s.long)

      module _ (cdat edge : ℕ) (few : length h ≤ 65536) where
        read_from : (ns : List ℕ) (p next : ℕ) → ((i : ℕ) → i < length ns → get_or ns i 0 < length h) →
            parents_from (length h) cdat edge p next (rows_from h order next ns) (flat_map (λ n. edges_from order (parents_of h n)) ns) ≡ Ok (map named_parents ns)
        read_from [] p next held = refl
        read_from (n ∷ ns) p next held =
            let qs = named_parents n in
            let rest = flat_map (λ m. edges_from order (parents_of h m)) ns in
            let rows = rows_from h order (next + extra (parents_of h n)) ns in
            let onward : List ℕ → Result (List (List ℕ)) ℕ =
            λ ps. led_by ps (parents_from (length h) cdat edge (suc p) (next + extra ps) rows (drop (extra ps) (edge_words qs ++ rest))) in
            ap (λ ws. parents_from (length h) cdat edge p next (rows_from h order next (n ∷ ns)) (ws ++ rest)) (edges_by_positions order (parents_of h n))
            ∙ ap₂ (λ a b. went_on (parents_by (length h) cdat edge p next a b (edge_words qs ++ rest)) onward)
            (first_by_positions order (parents_of h n)) (second_by_positions order next (parents_of h n))
            ∙ ap (λ r. went_on r onward)
            (words_read (length h) cdat edge few qs rest p next (omega (arith, length_named n, w.few n)) (named_held n (held 0 (omega arith))))
            ∙ ap₂ (λ x ws. led_by qs (parents_from (length h) cdat edge (suc p) (next + x) rows ws)) (extra_positions order (parents_of h n)) (drop_edges qs rest)
            ∙ ap (led_by qs) (read_from ns (suc p) (next + extra (parents_of h n)) (λ i lt. held (suc i) (omega arith)))

        pub parents_read_back : parents_from (length h) cdat edge 0 0 (layout_of h order).rows (layout_of h order).edges ≡ Ok (map named_parents order)
        unfolding read_from
        parents_read_back = read_from order 0 0 s.held
