-- The levels of a history are read back from its rows, and pass. Assumes nothing.
use Rattle.std.proofs.Common.{◌≡◌, ℕ, zero, suc, ◌+◌, ◌*◌, ◌/◌, ◌<◌, ◌≤◌, List, [], map, length, get_or, take, None, sym, refl, ap, ◌∙◌, arith}
use Rattle.std.proofs.lemmas.List.{length-map, get_or-map, get_or-take, get_or_default}
use Rattle.std.proofs.lemmas.Bool.{eq-eqb}
use Rattle.history.specs.Generations.{above, levels_of}
use Rattle.history.specs.History.{Commit, commit_of, parents_of, Wellformed}
use Rattle.history.proofs.Chains.{length_labels, label_at}
use Rattle.graph_file.specs.Encoding.{FileOrder, position, layout_of}
use Rattle.graph_file.proofs.DataRows.{blank_row, length_rows, row_at}
use Rattle.graph_reader.specs.Faults.{first_failing}
use Rattle.graph_reader.specs.Levels.{row_level, levels_in, level_by, level_test, level_tests}
use Rattle.graph_reader.proofs.CountedTests.{none_fails}
use Rattle.graph_reader.proofs.ParentsRead.{named_parents, position_holds}
use Rattle.graph_reader.proofs.Renumbering.{climbed, climbed_same, climbed_map, climbed_most}

module _ (h : List Commit) (w : Wellformed h) where
  abbrev pub level : ℕ → ℕ
  level n = get_or (levels_of h) n 0

  -- a commit's level is one more than the greatest of its parents
  level_ruled : (n : ℕ) → n < length h → level n ≡ climbed level 1 (parents_of h n)
  level_ruled n lt =
      let ps = parents_of h n in
      let long = length_labels (λ _ _. 1) above [] h in
      label_at (λ _ _. 1) above h n 0 lt
      ∙ climbed_same (λ p. get_or (take n (levels_of h)) p 1) level ps 1
      (λ j l. let less = w.falling n (get_or ps j 0) (j, l, refl) in
      get_or-take n (levels_of h) (get_or ps j 0) 1 less ∙ get_or_default (levels_of h) (get_or ps j 0) 1 0 (omega arith))

  level_below : (k n : ℕ) → n < k → n < length h → level n ≤ n + 1
  unfolding level_ruled
  level_below zero n low lt = absurd (omega arith)
  level_below (suc k) n low lt =
      omega (
        arith,
        level_ruled n lt,
        climbed_most level (parents_of h n) 1 (n + 1) (omega arith)
            (λ j l. let less = w.falling n (get_or (parents_of h n) j 0) (j, l, refl) in
            omega (arith, level_below k (get_or (parents_of h n) j 0) (omega arith) (omega arith))),
      )

  -- a chain of parents has at most as many commits as come before
  pub level_most : (n : ℕ) → n < length h → level n ≤ n + 1
  unfolding level_below
  level_most n lt = level_below (suc n) n (omega arith) lt

  module _ (order : List ℕ) (s : FileOrder h order) where
    pub levels_back : (p : ℕ) → p < length order → get_or (levels_in (layout_of h order).rows) p 0 ≡ level (get_or order p 0)
    levels_back p lt =
        let n = get_or order p 0 in
        let part : (level n * 4 + (commit_of h n).date / 4294967296) / 4 ≡ level n = omega (arith, w.dated n) in
        get_or-map row_level (layout_of h order).rows p blank_row 0 (omega (arith, length_rows h order order 0))
        ∙ ap row_level (row_at h order order 0 p lt) ∙ part

    level_passes : (p : ℕ) → p < length order → get_or (levels_in (layout_of h order).rows) p 0 ≡ level_by (levels_in (layout_of h order).rows) (named_parents h order (get_or order p 0))
    unfolding level_ruled
    level_passes p lt =
        let n = get_or order p 0 in
        let held = s.held p lt in
        let ps = parents_of h n in
        let levels = levels_in (layout_of h order).rows in
        levels_back p lt ∙ level_ruled n held
        ∙ sym (climbed_map (λ q. get_or levels q 0) (position order) ps 1
        ∙ climbed_same (λ q. get_or levels (position order q) 0) level ps 1
        (λ j l. let q = get_or ps j 0 in
        let less = w.falling n q (j, l, refl) in
        let there = position_holds h order s q (omega arith) in
        levels_back (position order q) there.0 ∙ ap level there.1))

    pub levels_pass : (cdat : ℕ) → first_failing (level_tests cdat (levels_in (layout_of h order).rows) (map (named_parents h order) order)) ≡ None
    unfolding level_passes
    levels_pass cdat =
        let levels = levels_in (layout_of h order).rows in
        let parents = map (named_parents h order) order in
        let long : length levels ≡ length order = length-map (layout_of h order).rows row_level ∙ length_rows h order order 0 in
        none_fails (level_test cdat levels parents) 0 (length levels) (λ i lt.
        let p = 0 + i in
        let l : p < length order = omega arith in
        eq-eqb (get_or levels p 0) (level_by levels (get_or parents p []))
        (level_passes p l ∙ ap (level_by levels) (sym (get_or-map (named_parents h order) order p 0 [] l))))
