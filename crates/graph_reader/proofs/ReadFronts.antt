-- The front of a file, read back. Assumes nothing.
use Rattle.std.proofs.Common.{◌≡◌, ℕ, ◌+◌, ◌-◌, ◌*◌, ◌/◌, ◌%◌, ◌≤◌, Bool, true, false, cond, ◌&&◌, eqb, ltb, leb, ◌⊎◌, List, [], length, Some, None, sym, refl, ap, ◌∙◌, ap₂, ⊎_elim, arith}
use Rattle.std.specs.Option.{option_map}
use Rattle.std.proofs.lemmas.Bool.{lt-ltb, cond-true, cond-false, and_from, le-leb, eq-eqb, le-ltb}
use Rattle.graph_file.proofs.Fronts.{front}
use Rattle.history.specs.declared.load_fault.ContainerFault.TheVariants.{WrongHeader, WrongContents}
use Rattle.graph_reader.specs.Bytes.{long_at, data_end, told_count, told_edges}
use Rattle.graph_reader.specs.Faults.{first_failing, either, stepped_by, header_tests, contents_tests, end_tests, container_fault}
use Rattle.graph_reader.proofs.FileFronts.{fronted}
use Rattle.graph_reader.proofs.WordBytes.{long_first}

steps_pass : (step least most from to n : ℕ) → from ≤ to → (to - from) % step ≡ 0 → (to - from) / step ≡ n → least ≤ n → n ≤ most → stepped_by step least most from to ≡ true
steps_pass step least most from to n le whole is many few =
    let k = (to - from) / step in
    and_from (leb from to) (eqb ((to - from) % step) 0 && (leb least k && leb k most)) (le-leb from to le)
    (and_from (eqb ((to - from) % step) 0) (leb least k && leb k most) (eq-eqb _ _ whole)
    (and_from (leb least k) (leb k most) (le-leb least k (omega arith)) (le-leb k most (omega arith))))

twenty_apart : (most from to n : ℕ) → to ≡ from + 20 * n → n ≤ most → stepped_by 20 0 most from to ≡ true
unfolding steps_pass
twenty_apart most from to n e few = steps_pass 20 0 most from to n (omega arith) (omega arith) (omega arith) (omega arith) few

four_apart : (most from to n : ℕ) → to ≡ from + 4 * n → 2 ≤ n → n ≤ most → stepped_by 4 2 most from to ≡ true
unfolding steps_pass
four_apart most from to n e many few = steps_pass 4 2 most from to n (omega arith) (omega arith) (omega arith) many few

two_pass : (x y : Bool) (p q : ℕ) → x ≡ true → y ≡ true → cond x (cond y None (Some q)) (Some p) ≡ None
two_pass x y p q a b = cond-true x _ _ a ∙ cond-true y _ _ b

begin_within : (b : Bool) → (56 ≤ front b 0 0 0) × (front b 0 0 0 ≤ 68)
begin_within true = (omega arith, omega arith)
begin_within false = (omega arith, omega arith)

length_fronted : (b : Bool) (n e : ℕ) (rest : List ℕ) → length (fronted b n e rest) ≡ front b n n e + length rest
length_fronted true n e rest = omega arith
length_fronted false n e rest = omega arith

module _ (b : Bool) (n e : ℕ) (rest : List ℕ) (few : n ≤ 65536) where
  abbrev bytes : List ℕ
  bytes = fronted b n e rest

  abbrev begin : ℕ
  begin = front b n n e

  data_place : long_at bytes 36 ≡ begin + 1024 + 20 * n
  unfolding begin_within
  data_place = long_first (begin + 1024 + 20 * n) [] (omega (arith, (begin_within b).1))

  pub count_back : told_count bytes ≡ n
  unfolding data_place
  count_back = ap (λ x. (x - (begin + 1024)) / 20) data_place ∙ (let z : (begin + 1024 + 20 * n - (begin + 1024)) / 20 ≡ n = omega arith in z)

  pub end_back : data_end bytes ≡ begin + 1024 + 56 * n
  end_back = ap (λ k. begin + 1024 + 56 * k) count_back

-- the tests of the table up to the place of CDAT pass
table_passes : (b : Bool) (n e : ℕ) (rest : List ℕ) → n ≤ 65536 → first_failing (contents_tests (fronted b n e rest)) ≡ None
unfolding data_place twenty_apart
table_passes true n e rest few =
    let to = long_at (fronted true n e rest) 36 in
    cond-true (stepped_by 20 0 65536 1092 to) _ _ (twenty_apart 65536 1092 to n (data_place true n e rest few) few)
table_passes false n e rest few =
    let to = long_at (fronted false n e rest) 36 in
    cond-true (stepped_by 20 0 65536 1080 to) _ _ (twenty_apart 65536 1080 to n (data_place false n e rest few) few)

module _ (n e : ℕ) (rest : List ℕ) (few : n ≤ 65536) (long : length rest ≡ 1024 + 20 * n + 36 * n + 4 * e) where
  three_passes : e ≡ 0 → first_failing (end_tests (fronted false n e rest)) ≡ None
  unfolding two_pass
  three_passes none =
      let bytes = fronted false n e rest in
      let at : long_at bytes 48 ≡ 1080 + 20 * n + 36 * n + 4 * e = long_first (1080 + 20 * n + 36 * n + 4 * e) [] (omega arith) in
      let end : data_end bytes ≡ 1080 + 56 * n = end_back false n e rest few in
      let all : length bytes ≡ 56 + length rest = omega arith in
      two_pass (eqb (long_at bytes 48) (data_end bytes)) (eqb (long_at bytes 48) (length bytes)) 48 48 (eq-eqb (long_at bytes 48) (data_end bytes) (omega arith)) (eq-eqb (long_at bytes 48) (length bytes) (omega arith))

  end_place : e ≤ 262144 → long_at (fronted true n e rest) 60 ≡ 1092 + 20 * n + 36 * n + 4 * e
  end_place most = long_first (1092 + 20 * n + 36 * n + 4 * e) [] (omega arith)

  four_passes : 2 ≤ e → e ≤ 262144 → first_failing (end_tests (fronted true n e rest)) ≡ None
  unfolding two_pass four_apart end_place
  four_passes some most =
      let bytes = fronted true n e rest in
      let at : long_at bytes 48 ≡ 1092 + 20 * n + 36 * n = long_first (1092 + 20 * n + 36 * n) [] (omega arith) in
      let last = end_place most in
      let end : data_end bytes ≡ 1092 + 56 * n = end_back true n e rest few in
      let all : length bytes ≡ 68 + length rest = omega arith in
      cond-true (eqb (long_at bytes 48) (data_end bytes)) _ _ (eq-eqb (long_at bytes 48) (data_end bytes) (omega arith))
      ∙ two_pass (stepped_by 4 2 262144 (data_end bytes) (long_at bytes 60)) (eqb (long_at bytes 60) (length bytes)) 60 60
      (four_apart 262144 (data_end bytes) (long_at bytes 60) e (omega arith) some most)
      (eq-eqb (long_at bytes 60) (length bytes) (omega arith))

  no_fault : (b : Bool) → first_failing (header_tests (fronted b n e rest)) ≡ None →
      first_failing (end_tests (fronted b n e rest)) ≡ None → container_fault (fronted b n e rest) ≡ None
  unfolding table_passes begin_within length_fronted
  no_fault b headed ended =
      let bytes = fronted b n e rest in
      cond-false (ltb (length bytes) 1080) _ _ (le-ltb (length bytes) 1080 (omega (arith, (begin_within b).0, length_fronted b n e rest)))
      ∙ ap (λ x. either (option_map WrongHeader x) (either (option_map WrongContents (first_failing (contents_tests bytes))) (option_map WrongContents (first_failing (end_tests bytes))))) headed
      ∙ ap₂ (λ x y. either (option_map WrongContents x) (option_map WrongContents y)) (table_passes b n e rest few) ended

  four_edges : e ≤ 262144 → told_edges (fronted true n e rest) ≡ e
  unfolding end_place
  four_edges most =
      ap₂ (λ x y. (x - y) / 4) (end_place most) (end_back true n e rest few) ∙ (let z : (1092 + 20 * n + 36 * n + 4 * e - (1092 + 56 * n)) / 4 ≡ e = omega arith in z)

  module _ (edged : (e ≡ 0) ⊎ ((2 ≤ e) × (e ≤ 262144))) where
    pub front_fine : container_fault (fronted (ltb 0 e) n e rest) ≡ None
    unfolding no_fault three_passes four_passes
    front_fine =
        ⊎_elim
        (λ none. ap (λ b. container_fault (fronted b n e rest)) (le-ltb 0 e (omega arith)) ∙ no_fault false refl (three_passes none))
        (λ some. ap (λ b. container_fault (fronted b n e rest)) (lt-ltb 0 e (omega arith)) ∙ no_fault true refl (four_passes some.0 some.1))
        edged

    pub edges_back : told_edges (fronted (ltb 0 e) n e rest) ≡ e
    unfolding four_edges
    edges_back =
        ⊎_elim
        (λ none. ap (λ b. told_edges (fronted b n e rest)) (le-ltb 0 e (omega arith)) ∙ sym none)
        (λ some. ap (λ b. told_edges (fronted b n e rest)) (lt-ltb 0 e (omega arith)) ∙ four_edges some.1)
        edged
