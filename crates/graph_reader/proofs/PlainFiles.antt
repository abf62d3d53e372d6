-- The layout of a history fits the words of a file. Assumes nothing.
use Rattle.std.proofs.Common.{◌≡◌, ℕ, zero, suc, ◌+◌, ◌-◌, ◌<◌, ◌≤◌, ltb, ◌⊎◌, List, [], ◌∷◌, ◌++◌, length, get_or, take, sym, refl, subst, inl, inr, ⊎_elim, arith}
use Rattle.std.specs.List.{flat_map}
use Rattle.std.proofs.lemmas.List.{length-map, length-append, get_or_append_left, get_or-append_right}
use Rattle.std.proofs.lemmas.Bool.{cases_lt, ltb-true, cond_both}
use Rattle.graph_file.proofs.PositionWords.{edges_by_positions, first_by_positions, second_by_positions}
use Rattle.history.specs.History.{Commit, commit_of, parents_of, parent_total, Wellformed}
use Rattle.graph_file.specs.Encoding.{FileOrder, edges_from, row_of_commit, layout_of}
use Rattle.graph_file.specs.Encoding.{extra}
use Rattle.graph_file.specs.ParentWords.{closed_words, edge_words, first_parent_word, second_parent_word}
use Rattle.graph_file.specs.Placing.{extras}
use Rattle.graph_file.proofs.DataRows.{length_rows, row_at, trees_wide}
use Rattle.graph_file.proofs.EdgeWords.{length_edge_words}
use Rattle.graph_file.proofs.Filing.{each_wide}
use Rattle.graph_file.proofs.Sources.{extras_room}
use Rattle.graph_reader.proofs.LevelsRead.{level_most}
use Rattle.graph_reader.proofs.ParentCodes.{Held}
use Rattle.graph_reader.proofs.ParentsRead.{named_parents, named_held}
use Rattle.graph_reader.proofs.PlainLayouts.{Fits, Plain}
use Rattle.graph_reader.proofs.Totals.{extras_bound}

held_append : (m : ℕ) (xs ys : List ℕ) → Held m xs → Held m ys → Held m (xs ++ ys)
held_append m xs ys left right j lt =
    ⊎_elim
    (λ l. subst (λ x. x < m) (sym (get_or_append_left xs ys 0 j l)) (left j l))
    (λ ge. subst (λ x. x < m) (sym (get_or-append_right xs ys (length xs) j 0 refl ge)) (right (j - length xs) (omega (arith, length-append xs ys))))
    (cases_lt j (length xs))

-- positions of a file, with and without a mark, fit words
module _ (count : ℕ) (few : count ≤ 65536) where
  closed_fit : (ps : List ℕ) → Held count ps → Held 4294967296 (closed_words ps)
  closed_fit [] held j lt = absurd (omega arith)
  closed_fit (p ∷ []) held zero lt = omega (arith, held 0 (omega arith))
  closed_fit (p ∷ []) held (suc j) lt = absurd (omega arith)
  closed_fit (p ∷ (q ∷ ps)) held zero lt = omega (arith, held 0 (omega arith))
  closed_fit (p ∷ (q ∷ ps)) held (suc j) lt = closed_fit (q ∷ ps) (λ i l. held (suc i) (omega arith)) j (omega arith)

  edges_fit : (ps : List ℕ) → Held count ps → Held 4294967296 (edge_words ps)
  unfolding closed_fit
  edges_fit [] held = λ j lt. absurd (omega arith)
  edges_fit (p ∷ ps) held =
      cond_both (ltb 1 (length ps)) (closed_words ps) [] (Held 4294967296) (λ _. closed_fit ps (λ i l. held (suc i) (omega arith))) (λ _ j lt. absurd (omega arith))

  first_fits : (ps : List ℕ) → Held count ps → first_parent_word ps < 4294967296
  first_fits [] held = omega arith
  first_fits (p ∷ ps) held = omega (arith, held 0 (omega arith))

  second_fits : (start : ℕ) (ps : List ℕ) → start ≤ 262144 → Held count ps → second_parent_word start ps < 4294967296
  second_fits start [] le held = omega arith
  second_fits start (p ∷ []) le held = omega arith
  second_fits start (p ∷ (q ∷ [])) le held = omega (arith, held 1 (omega arith))
  second_fits start (p ∷ (q ∷ (r ∷ ps))) le held = omega arith

-- a list in EDGE has two words or more
extra_cases : (ps : List ℕ) → (extra ps ≡ 0) ⊎ (2 ≤ extra ps)
extra_cases ps = cond_both (ltb 2 (length ps)) (length ps - 1) 0 (λ x. (x ≡ 0) ⊎ (2 ≤ x)) (λ t. inr (omega (arith, ltb-true 2 (length ps) t))) (λ _. inl refl)

extras_cases : (h : List Commit) (ns : List ℕ) → (extras h ns ≡ 0) ⊎ (2 ≤ extras h ns)
unfolding extra_cases
extras_cases h [] = inl refl
extras_cases h (n ∷ ns) =
    ⊎_elim (λ a. ⊎_elim (λ b. inl (omega arith)) (λ b. inr (omega arith)) (extras_cases h ns)) (λ a. inr (omega arith)) (extra_cases (parents_of h n))

module _ (h : List Commit) (order : List ℕ) (w : Wellformed h) (s : FileOrder h order) (few : length h ≤ 65536) (all : parent_total h ≤ 262144) where
  row_fits : (n start : ℕ) → n < length h → start ≤ 262144 → Fits (row_of_commit h order n start)
  unfolding first_fits second_fits
  row_fits n start lt le =
      let qs = named_parents h order n in
      let held = named_held h order s w n lt in
      record {
        first = subst (λ x. x < 4294967296) (sym (first_by_positions order (parents_of h n))) (first_fits (length h) few qs held);
        second = subst (λ x. x < 4294967296) (sym (second_by_positions order start (parents_of h n))) (second_fits (length h) few start qs le held);
        generation = omega (arith, level_most h w n lt, w.dated n);
        low = omega arith;
      }

  words_fit : (ns : List ℕ) → ((i : ℕ) → i < length ns → get_or ns i 0 < length h) → Held 4294967296 (flat_map (λ n. edges_from order (parents_of h n)) ns)
  unfolding held_append edges_fit
  words_fit [] held = λ j lt. absurd (omega arith)
  words_fit (n ∷ ns) held =
      held_append 4294967296 (edges_from order (parents_of h n)) (flat_map (λ m. edges_from order (parents_of h m)) ns)
      (subst (Held 4294967296) (sym (edges_by_positions order (parents_of h n))) (edges_fit (length h) few (named_parents h order n) (named_held h order s w n (held 0 (omega arith)))))
      (words_fit ns (λ i lt. held (suc i) (omega arith)))

  pub plain : Plain (layout_of h order)
  unfolding extras_cases row_fits words_fit
  plain =
      let rows = (layout_of h order).rows in
      let ids = (layout_of h order).ids in
      let long : length ids ≡ length order = length-map order (λ n. (commit_of h n).id) in
      let rowed : length rows ≡ length order = length_rows h order order 0 in
      let words = length_edge_words order h order in
      let most = extras_bound h order s in
      record {
        counted = omega arith;
        few = omega (arith, s.long);
        edged = ⊎_elim (λ a. inl (omega arith)) (λ a. inr (omega arith, omega arith)) (extras_cases h order);
        ids_wide = each_wide h order s w.wide;
        trees_wide = trees_wide h order s w.wide;
        words = λ i lt.
            let l : i < length order = omega arith in
            subst Fits (sym (row_at h order order 0 i l)) (row_fits (get_or order i 0) (0 + extras h (take i order)) (s.held i l) (omega (arith, extras_room h order i)));
        edge_words = words_fit order s.held;
      }
