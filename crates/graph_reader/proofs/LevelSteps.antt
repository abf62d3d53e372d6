-- The levels of a file, one after the other. Assumes nothing.
use Rattle.std.proofs.Common.{◌≡◌, ℕ, Bool, ◌+◌, ◌*◌, ◌<◌, ◌≤◌, max, eqb, List, [], ◌∷◌, map, fold, length, get_or, drop, Some, None, Option, refl, sym, ap, ◌∙◌, arith}
use Rattle.std.proofs.lemmas.List.FromFn.{length-map-range_with_len, get_or-map-range_with_len}
use Rattle.std.proofs.lemmas.List.{length-map, get_or-map}
use Rattle.std.specs.List.{All}
use Rattle.std.proofs.lemmas.List.Elements.{All-head, All-tail}
use Rattle.std.proofs.lemmas.Bool.{eq-eqb, ne_eqb}
use Rattle.history.specs.Generations.{above}
use Rattle.graph_reader.specs.Bytes.{row_at, rows_in}
use Rattle.graph_reader.specs.Levels.{row_level, levels_in, level_by, level_test, level_tests}
use Rattle.graph_reader.specs.Faults.{Test, first_failing}
use Rattle.graph_reader.proofs.Faulting.{test_passes, test_fails, tests_all}

module _ (chunk : List ℕ) (count : ℕ) where
  abbrev levels : List ℕ
  levels = levels_in (rows_in chunk count)

  pub length_levels : length levels ≡ count
  length_levels = length-map (rows_in chunk count) row_level ∙ length-map-range_with_len (row_at chunk) 0 count

  pub level_at : (p : ℕ) → p < count → get_or levels p 0 ≡ row_level (row_at chunk p)
  level_at p lt =
      get_or-map row_level (rows_in chunk count) p (row_at chunk p) 0 (omega (arith, length-map-range_with_len (row_at chunk) 0 count))
      ∙ ap row_level (get_or-map-range_with_len (row_at chunk) 0 count p p (row_at chunk p) lt (omega arith))

  -- the greatest over the parents, from a level on
  folded_from : (ps : List ℕ) (x : ℕ) → All (λ n. n < count) ps →
      fold max x (map (λ q. row_level (row_at chunk q) + 1) ps) ≡ fold (λ y q. above y (get_or levels q 0)) x ps
  folded_from [] x held = refl
  folded_from (p ∷ ps) x held =
      folded_from ps (max x (row_level (row_at chunk p) + 1)) (All-tail (λ n. n < count) p ps held)
      ∙ ap (λ l. fold (λ y q. above y (get_or levels q 0)) (max x (l + 1)) ps) (sym (level_at p (All-head (λ n. n < count) p ps held)))

  pub level_folded : (ps : List ℕ) → All (λ n. n < count) ps →
      fold max 1 (map (λ q. row_level (row_at chunk q) + 1) ps) ≡ level_by (levels_in (rows_in chunk count)) ps
  level_folded ps held = folded_from ps 1 held

  -- the tests of the levels, where the chunk begins at `place`
  module _ (place : ℕ) (all : List (List ℕ)) where
    abbrev pub tests_from : ℕ → Option ℕ
    tests_from p = first_failing (drop p (level_tests place levels all))

    abbrev the_test : ℕ → Test
    the_test = level_test place levels all

    pub levels_end : (p : ℕ) → count ≤ p → tests_from p ≡ None
    levels_end p ge = tests_all the_test 0 (length levels) p (omega (arith, length_levels))

    module _ (p : ℕ) (lt : p < count) where
      at_rule : (b : ℕ → ℕ → Bool) → b (get_or levels p 0) (level_by levels (get_or all p [])) ≡ b (row_level (row_at chunk p)) (level_by levels (get_or all p []))
      at_rule b = ap (λ n. b n (level_by levels (get_or all p []))) (level_at p lt)

      pub level_passes : row_level (row_at chunk p) ≡ level_by levels (get_or all p []) → tests_from p ≡ tests_from (p + 1)
      level_passes e = test_passes the_test 0 (length levels) p p (omega (arith, length_levels)) (omega arith) (at_rule eqb ∙ eq-eqb _ _ e)

      pub level_fails : (row_level (row_at chunk p) ≡ level_by levels (get_or all p []) → ⊥) → tests_from p ≡ Some (place + 36 * p + 28)
      level_fails ne = test_fails the_test 0 (length levels) p p (omega (arith, length_levels)) (omega arith) (at_rule eqb ∙ ne_eqb _ _ ne)
