-- The first test that fails, over tests one after the other. Assumes nothing.
use Rattle.std.proofs.Common.{◌≡◌, ℕ, zero, suc, ◌+◌, ◌<◌, ◌≤◌, true, false, cond, List, [], ◌∷◌, map, length, get_or, drop, Some, None, sym, ap, ◌∙◌, ⊎_elim, arith}
use Rattle.std.specs.List.{range_with_len}
use Rattle.std.proofs.lemmas.List.FromFn.{length-map-range_with_len, get_or-map-range_with_len}
use Rattle.std.proofs.lemmas.List.{at_drop_more, at_drop_all}
use Rattle.std.proofs.lemmas.Bool.{cases_Bool, cond-true, cond-false}
use Rattle.graph_reader.specs.Faults.{Test, first_failing}
use Rattle.graph_reader.proofs.Options.{never_none}

-- a test where there is none
abbrev pub no_test : Test
no_test = record { place = 0; passed = false }

failed_not_none : {A : Type 0} (t : Test) (ts : List Test) → t.passed ≡ false → first_failing (t ∷ ts) ≡ None → A
failed_not_none t ts f e = never_none t.place (sym (cond-false t.passed (first_failing ts) (Some t.place) f) ∙ e)

pub each_passes : (ts : List Test) → first_failing ts ≡ None → (i : ℕ) (d : Test) → i < length ts → (get_or ts i d).passed ≡ true
each_passes [] e i d lt = absurd (omega arith)
each_passes (t ∷ ts) e zero d lt = ⊎_elim (λ p. p) (λ f. failed_not_none t ts f e) (cases_Bool t.passed)
each_passes (t ∷ ts) e (suc i) d lt =
    ⊎_elim
    (λ p. each_passes ts (sym (cond-true _ _ _ p) ∙ e) i d (omega arith))
    (λ f. failed_not_none t ts f e)
    (cases_Bool t.passed)

-- a loop over tests that are made from their index
module _ (f : ℕ → Test) (a n : ℕ) where
  abbrev tests : List Test
  tests = map f (range_with_len a n)

  at_test : (i j : ℕ) → i < n → a + i ≡ j → first_failing (drop i tests) ≡ cond (f j).passed (first_failing (drop (i + 1) tests)) (Some (f j).place)
  at_test i j lt e =
      at_drop_more first_failing tests i no_test (omega (arith, length-map-range_with_len f a n))
      ∙ ap (λ t. cond t.passed (first_failing (drop (i + 1) tests)) (Some t.place)) (get_or-map-range_with_len f a n i j no_test lt e)

  pub test_passes : (i j : ℕ) → i < n → a + i ≡ j → (f j).passed ≡ true → first_failing (drop i tests) ≡ first_failing (drop (i + 1) tests)
  test_passes i j lt e p = at_test i j lt e ∙ cond-true _ _ _ p

  pub test_fails : (i j : ℕ) → i < n → a + i ≡ j → (f j).passed ≡ false → first_failing (drop i tests) ≡ Some (f j).place
  test_fails i j lt e p = at_test i j lt e ∙ cond-false _ _ _ p

  pub tests_all : (i : ℕ) → n ≤ i → first_failing (drop i tests) ≡ None
  tests_all i le = at_drop_all first_failing tests i (omega (arith, length-map-range_with_len f a n))
