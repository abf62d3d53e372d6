-- What a container without fault says of its sizes. Assumes nothing.
use Rattle.std.proofs.Common.{◌≡◌, ℕ, ◌+◌, ◌-◌, ◌*◌, ◌/◌, ◌%◌, ◌<◌, ◌≤◌, true, false, ◌&&◌, eqb, ltb, leb, ◌⊎◌, List, length, get_or, None, sym, refl, ap, ◌∙◌, subst, inl, inr, ⊎_elim, le_of_eq, arith}
use Rattle.std.specs.List.{between}
use Rattle.std.proofs.lemmas.List.Edits.{length-between}
use Rattle.std.proofs.lemmas.Bool.{eq-eqb, ne_eqb, cond-true, cond-false, and_parts, or_cases, leb-true, ltb-false, eqb-true}
use Rattle.history.specs.declared.load_fault.ContainerFault.TheVariants.{TooShort, WrongHeader, WrongContents}
use Rattle.graph_reader.specs.Bytes.{long_at, chunks_begin, ids_begin, told_count, data_begin, data_end, told_edges, fan_out_chunk, id_chunk, data_chunk, edge_chunk}
use Rattle.graph_reader.specs.Faults.{first_failing, stepped_by, header_tests, contents_tests, three_tests, four_tests, end_tests, container_fault}
use Rattle.graph_reader.proofs.Faulting.{no_test, each_passes}
use Rattle.graph_reader.proofs.Options.{either_none, mapped_none, cond_none}

-- a distance that is a whole number of steps
pub record Stepped (step least most from to : ℕ) : Type 0 where
  pub rises : from ≤ to
  pub whole : (to - from) % step ≡ 0
  pub many : least ≤ (to - from) / step
  pub few : (to - from) / step ≤ most

stepped : (step least most from to : ℕ) → stepped_by step least most from to ≡ true → Stepped step least most from to
stepped step least most from to e =
    let n = (to - from) / step in
    let a = and_parts (leb from to) (eqb ((to - from) % step) 0 && (leb least n && leb n most)) e in
    let b = and_parts (eqb ((to - from) % step) 0) (leb least n && leb n most) a.1 in
    let c = and_parts (leb least n) (leb n most) b.1 in
    record {
      rises = leb-true from to a.0;
      whole = eqb-true ((to - from) % step) 0 b.0;
      many = leb-true least n c.0;
      few = leb-true n most c.1;
    }

twenty_steps : (least most from to : ℕ) → Stepped 20 least most from to → from + 20 * ((to - from) / 20) ≡ to
twenty_steps least most from to s = omega arith

four_steps : (least most from to : ℕ) → Stepped 4 least most from to → from + 4 * ((to - from) / 4) ≡ to
four_steps least most from to s = omega arith

plus_none : (n : ℕ) → n + 4 * 0 ≡ n
plus_none n = omega arith

within : (a n e len : ℕ) → a + 56 * n + 4 * e ≡ len → (a ≤ len) × (a + 20 * n ≤ len) × (a + 56 * n ≤ len)
within a n e len filled = (omega arith, omega arith, omega arith)

pub data_behind : (a n : ℕ) → a + 56 * n ≡ a + 20 * n + 36 * n
data_behind a n = omega arith

length_span : (xs : List ℕ) (i n j : ℕ) → j ≡ i + n → j ≤ length xs → length (between i j xs) ≡ n
length_span xs i n j e le = length-between xs i j le ∙ (let z : j - i ≡ n = omega arith in z)

-- a table of chunks that passes tells of at most 65,536 commits
data_steps : (bytes : List ℕ) → first_failing (contents_tests bytes) ≡ None → Stepped 20 0 65536 (ids_begin bytes) (long_at bytes 36)
data_steps bytes e = stepped 20 0 65536 (ids_begin bytes) (long_at bytes 36) (each_passes (contents_tests bytes) e 5 no_test (omega arith))

pub few_told : (bytes : List ℕ) → first_failing (contents_tests bytes) ≡ None → told_count bytes ≤ 65536
few_told bytes e = (data_steps bytes e).few

module _ (bytes : List ℕ) (fine : container_fault bytes ≡ None) where
  layers : (ltb (length bytes) 1080 ≡ false) × (first_failing (header_tests bytes) ≡ None) × (first_failing (contents_tests bytes) ≡ None) × (first_failing (end_tests bytes) ≡ None)
  layers =
      let a = cond_none (ltb (length bytes) 1080) (TooShort (length bytes)) _ fine in
      let b = either_none WrongHeader (first_failing (header_tests bytes)) _ a.1 in
      let c = either_none WrongContents (first_failing (contents_tests bytes)) _ b.1 in
      (a.0, b.0, c.0, mapped_none WrongContents _ c.1)

  pub long_enough : 1080 ≤ length bytes
  unfolding layers
  long_enough = ltb-false (length bytes) 1080 layers.0

  -- each of the tests passes
  pub header_passes : (i : ℕ) → i < 8 → (get_or (header_tests bytes) i no_test).passed ≡ true
  unfolding layers
  header_passes i lt = each_passes (header_tests bytes) layers.1 i no_test lt

  pub contents_pass : (i : ℕ) → i < 6 → (get_or (contents_tests bytes) i no_test).passed ≡ true
  unfolding layers
  contents_pass i lt = each_passes (contents_tests bytes) layers.2 i no_test lt

  pub three_pass : get_or bytes 6 0 ≡ 3 → (i : ℕ) → i < 3 → (get_or (three_tests bytes) i no_test).passed ≡ true
  unfolding layers
  three_pass is i lt =
      each_passes (three_tests bytes) (ap first_failing (sym (cond-true (eqb (get_or bytes 6 0) 3) (three_tests bytes) (four_tests bytes) (eq-eqb _ _ is))) ∙ layers.3) i no_test lt

  pub four_pass : get_or bytes 6 0 ≡ 4 → (i : ℕ) → i < 5 → (get_or (four_tests bytes) i no_test).passed ≡ true
  unfolding layers
  four_pass is i lt =
      each_passes (four_tests bytes) (ap first_failing (sym (cond-false (eqb (get_or bytes 6 0) 3) (three_tests bytes) (four_tests bytes) (ne_eqb _ _ (λ e. omega arith)))) ∙ layers.3) i no_test lt

  -- three or four chunks
  pub chunks_told : (get_or bytes 6 0 ≡ 3) ⊎ (get_or bytes 6 0 ≡ 4)
  chunks_told =
      ⊎_elim
      (λ e. inl (eqb-true (get_or bytes 6 0) 3 e))
      (λ e. inr (eqb-true (get_or bytes 6 0) 4 e))
      (or_cases (eqb (get_or bytes 6 0) 3) (eqb (get_or bytes 6 0) 4) (header_passes 6 (omega arith)))

  pub few_commits : told_count bytes ≤ 65536
  unfolding layers
  few_commits = few_told bytes layers.2

  pub data_told : long_at bytes 36 ≡ data_begin bytes
  unfolding layers
  data_told = sym (twenty_steps 0 65536 (ids_begin bytes) (long_at bytes 36) (data_steps bytes layers.2))

  module _ (three : get_or bytes 6 0 ≡ 3) where
    pub no_edges : told_edges bytes ≡ 0
    no_edges = cond-true (eqb (get_or bytes 6 0) 3) 0 _ (eq-eqb (get_or bytes 6 0) 3 three)

    three_end : data_end bytes ≡ length bytes
    three_end = sym (eqb-true (long_at bytes 48) (data_end bytes) (three_pass three 1 (omega arith))) ∙ eqb-true (long_at bytes 48) (length bytes) (three_pass three 2 (omega arith))

  module _ (four : get_or bytes 6 0 ≡ 4) where
    edges_are : told_edges bytes ≡ (long_at bytes 60 - data_end bytes) / 4
    edges_are = cond-false (eqb (get_or bytes 6 0) 3) 0 _ (ne_eqb (get_or bytes 6 0) 3 (λ e. omega arith))

    edge_steps : Stepped 4 2 262144 (data_end bytes) (long_at bytes 60)
    edge_steps = stepped 4 2 262144 (data_end bytes) (long_at bytes 60) (four_pass four 3 (omega arith))

    pub some_edges : (2 ≤ told_edges bytes) × (told_edges bytes ≤ 262144)
    unfolding edges_are edge_steps
    some_edges = (subst (λ n. 2 ≤ n) (sym edges_are) edge_steps.many, subst (λ n. n ≤ 262144) (sym edges_are) edge_steps.few)

    four_end : data_end bytes + 4 * told_edges bytes ≡ length bytes
    unfolding edges_are edge_steps
    four_end =
        ap (λ n. data_end bytes + 4 * n) edges_are ∙ four_steps 2 262144 (data_end bytes) (long_at bytes 60) edge_steps
        ∙ eqb-true (long_at bytes 60) (length bytes) (four_pass four 4 (omega arith))

  pub edges_told : (told_edges bytes ≡ 0) ⊎ ((2 ≤ told_edges bytes) × (told_edges bytes ≤ 262144))
  edges_told = ⊎_elim (λ e. inl (no_edges e)) (λ e. inr (some_edges e)) chunks_told

  -- the chunks fill the file
  pub file_filled : data_end bytes + 4 * told_edges bytes ≡ length bytes
  unfolding three_end four_end
  file_filled =
      ⊎_elim
      (λ e. ap (λ n. data_end bytes + 4 * n) (no_edges e) ∙ plus_none (data_end bytes) ∙ three_end e)
      (λ e. four_end e)
      chunks_told

  -- where the ids, the rows and the extra edges begin is within it
  pub places_within : (ids_begin bytes ≤ length bytes) × (data_begin bytes ≤ length bytes) × (data_end bytes ≤ length bytes)
  places_within = within (ids_begin bytes) (told_count bytes) (told_edges bytes) (length bytes) file_filled

  pub length_fan_out_chunk : length (fan_out_chunk bytes) ≡ 1024
  length_fan_out_chunk = length_span bytes (chunks_begin bytes) 1024 (ids_begin bytes) refl places_within.0

  pub length_id_chunk : length (id_chunk bytes) ≡ 20 * told_count bytes
  length_id_chunk = length_span bytes (ids_begin bytes) (20 * told_count bytes) (data_begin bytes) refl places_within.1

  pub length_data_chunk : length (data_chunk bytes) ≡ 36 * told_count bytes
  length_data_chunk = length_span bytes (data_begin bytes) (36 * told_count bytes) (data_end bytes) (data_behind (ids_begin bytes) (told_count bytes)) places_within.2

  pub length_edge_chunk : length (edge_chunk bytes) ≡ 4 * told_edges bytes
  length_edge_chunk = length_span bytes (data_end bytes) (4 * told_edges bytes) (data_end bytes + 4 * told_edges bytes) refl (le_of_eq file_filled)
