-- Tests that are made from their index, where none fails. Assumes nothing.
use Rattle.std.proofs.Common.{◌≡◌, ℕ, zero, suc, ◌+◌, ◌-◌, ◌*◌, ◌<◌, ◌≤◌, Bool, true, false, List, [], map, get_or, drop, Some, None, Option, sym, refl, ap, ◌∙◌, ap₂, arith}
use Rattle.std.specs.List.{range_with_len}
use Rattle.std.proofs.lemmas.List.FromFn.{length-map-range_with_len, get_or-map-range_with_len}
use Rattle.std.proofs.lemmas.Bool.{cond-true, eq-eqb, ne_eqb}
use Rattle.history.specs.Ids.{precedes}
use Rattle.graph_file.specs.Layout.{fan_out}
use Rattle.graph_reader.specs.Bytes.{word_at, id_at, ids_in}
use Rattle.graph_reader.specs.ChunkFaults.{fan_out_test, fan_out_tests, order_test, order_tests}
use Rattle.graph_reader.specs.Faults.{Test, first_failing}
use Rattle.graph_reader.proofs.Faulting.{no_test, each_passes, test_passes, test_fails, tests_all}

module _ (f : ℕ → Test) where
  pub counted_pass : (a n i j : ℕ) → first_failing (map f (range_with_len a n)) ≡ None → i < n → a + i ≡ j → (f j).passed ≡ true
  counted_pass a n i j fine lt e =
      ap (λ t. t.passed) (sym (get_or-map-range_with_len f a n i j no_test lt e)) ∙ each_passes (map f (range_with_len a n)) fine i no_test (omega (arith, length-map-range_with_len f a n))

  pub none_fails : (a n : ℕ) → ((i : ℕ) → i < n → (f (a + i)).passed ≡ true) → first_failing (map f (range_with_len a n)) ≡ None
  none_fails a zero each = refl
  none_fails a (suc n) each =
      cond-true _ _ _ (ap (λ k. (f k).passed) (let z : a ≡ a + 0 = omega arith in z) ∙ each 0 (omega arith))
      ∙ none_fails (a + 1) n (λ i lt. ap (λ k. (f k).passed) (let z : a + 1 + i ≡ a + suc i = omega arith in z) ∙ each (suc i) (omega arith))

-- the tests of the fan-out, one word after the other
module _ (chunk : List ℕ) (place : ℕ) (ids : List (List ℕ)) (i : ℕ) where
  pub fan_out_passes : i < 256 → word_at chunk (4 * i) ≡ fan_out ids i →
      first_failing (drop i (fan_out_tests chunk place ids)) ≡ first_failing (drop (i + 1) (fan_out_tests chunk place ids))
  unfolding fan_out_tests
  fan_out_passes lt e = test_passes (fan_out_test chunk place ids) 0 256 i i lt (omega arith) (eq-eqb _ _ e)

  pub fan_out_fails : i < 256 → (word_at chunk (4 * i) ≡ fan_out ids i → ⊥) → first_failing (drop i (fan_out_tests chunk place ids)) ≡ Some (place + 4 * i)
  unfolding fan_out_tests
  fan_out_fails lt ne = test_fails (fan_out_test chunk place ids) 0 256 i i lt (omega arith) (ne_eqb _ _ ne)

  pub fan_out_end : 256 ≤ i → first_failing (drop i (fan_out_tests chunk place ids)) ≡ None
  unfolding fan_out_tests
  fan_out_end le = tests_all (fan_out_test chunk place ids) 0 256 i le

-- the tests of the order, one id after the other
module _ (chunk : List ℕ) (place count p : ℕ) where
  abbrev tests_from : ℕ → Option ℕ
  tests_from i = first_failing (drop i (order_tests chunk place count))

  at_test : (b : Bool) → precedes (id_at chunk p) (id_at chunk (p + 1)) ≡ b → precedes (id_at chunk (p + 1 - 1)) (id_at chunk (p + 1)) ≡ b
  at_test b e = ap (λ k. precedes (id_at chunk k) (id_at chunk (p + 1))) (let z : p + 1 - 1 ≡ p = omega arith in z) ∙ e

  pub order_passes : p + 1 < count → precedes (id_at chunk p) (id_at chunk (p + 1)) ≡ true → tests_from p ≡ tests_from (p + 1)
  order_passes lt e = test_passes (order_test chunk place) 1 (count - 1) p (p + 1) (omega arith) (omega arith) (at_test true e)

  pub order_fails : p + 1 < count → precedes (id_at chunk p) (id_at chunk (p + 1)) ≡ false → tests_from p ≡ Some (place + 20 * (p + 1))
  order_fails lt e = test_fails (order_test chunk place) 1 (count - 1) p (p + 1) (omega arith) (omega arith) (at_test false e)

  pub order_end : count ≤ p + 1 → tests_from p ≡ None
  order_end le = tests_all (order_test chunk place) 1 (count - 1) p (omega arith)

  -- two neighbours of the ids
  pub two_ids : (pair : List (List ℕ)) → p + 1 < count → ((k : ℕ) (d : List ℕ) → k < 2 → get_or pair k d ≡ get_or (ids_in chunk count) (p + k) d) →
      precedes (get_or pair 0 []) (get_or pair 1 []) ≡ precedes (id_at chunk p) (id_at chunk (p + 1))
  two_ids pair lt at =
      let one = at 0 [] (omega arith) ∙ get_or-map-range_with_len (id_at chunk) 0 count (p + 0) p [] (omega arith) (omega arith) in
      let two = at 1 [] (omega arith) ∙ get_or-map-range_with_len (id_at chunk) 0 count (p + 1) (p + 1) [] (omega arith) (omega arith) in
      ap₂ precedes one two
