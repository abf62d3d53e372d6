-- A file without fault in its container and its fan-out is the file of the layout that it holds. Assumes nothing.
use Rattle.std.proofs.Common.{◌≡◌, ℕ, ◌+◌, ◌-◌, ◌*◌, ◌<◌, ◌≤◌, ltb, List, ◌++◌, length, take, drop, None, sym, refl, ap, ◌∙◌, ap₂, le_of_eq, arith}
use Rattle.std.specs.List.{between, range_with_len, flat_map}
use Rattle.std.proofs.lemmas.List.FromFn.{length-map-range_with_len}
use Rattle.std.proofs.lemmas.List.{append_assoc, take-append-drop, take_at, drop-drop, length-take-le, length-drop}
use Rattle.std.proofs.lemmas.Slice.{between_to_end}
use Rattle.std.proofs.lemmas.Bool.{eqb-true}
use Rattle.graph_file.specs.Layout.{Layout, row_bytes, fan_out, fan_out_bytes, id_bytes, data_bytes, edge_bytes, file_bytes}
use Rattle.graph_file.specs.Placing.{Sized}
use Rattle.graph_file.specs.Words.{word}
use Rattle.graph_file.proofs.DataRows.{row_wide}
use Rattle.graph_reader.specs.Bytes.{word_at, id_at, ids_in, row_at, rows_in, word_in, chunks_begin, ids_begin, data_begin, data_end, told_count, told_edges, fan_out_chunk, id_chunk, data_chunk, edge_chunk, layout_in}
use Rattle.graph_reader.specs.ChunkFaults.{fan_out_test, fan_out_tests}
use Rattle.graph_reader.specs.Faults.{container_fault}
use Rattle.graph_reader.specs.Verdict.{fan_out_fault}
use Rattle.graph_reader.proofs.ChunkItems.{joined_map, chunk_is}
use Rattle.graph_reader.proofs.ContainerSizes.{file_filled, length_fan_out_chunk, length_id_chunk, length_data_chunk, length_edge_chunk}
use Rattle.graph_reader.proofs.CountedTests.{counted_pass}
use Rattle.graph_reader.proofs.FileFronts.{fronted, file_fronted}
use Rattle.graph_reader.proofs.FrontBytes.{front_is}
use Rattle.graph_reader.proofs.WordBytes.{AllBytes, drop_bytes, take_bytes, word_cut, word_taken}

further : (a n : ℕ) → a ≤ a + n
further a n = omega arith

further_on : (a n : ℕ) → a + 20 * n ≤ a + 56 * n
further_on a n = omega arith

pub between_bytes : (i j : ℕ) (xs : List ℕ) → AllBytes xs → AllBytes (between i j xs)
between_bytes i j xs low = take_bytes (j - i) (drop i xs) (drop_bytes i xs low)

span_cut : (xs : List ℕ) (i j : ℕ) → i ≤ j → drop i xs ≡ between i j xs ++ drop j xs
span_cut xs i j le =
    sym (take-append-drop (j - i) (drop i xs))
    ∙ ap (λ s. between i j xs ++ s) (drop-drop (j - i) i xs ∙ ap (λ n. drop n xs) (let z : i + (j - i) ≡ j = omega arith in z))

-- an id of 20 bytes
pub wide_slice : (xs : List ℕ) (at : ℕ) → at + 20 ≤ length xs → length (take 20 (drop at xs)) ≡ 20
wide_slice xs at le = length-take-le 20 (drop at xs) (omega (arith, length-drop at xs))

-- a chunk of n words, or ids, or rows
module _ (chunk : List ℕ) (n : ℕ) where
  words_are : (f : ℕ → ℕ) → AllBytes chunk → length chunk ≡ 4 * n → ((i : ℕ) → i < n → word_at chunk (4 * i) ≡ f i) → flat_map (λ i. word (f i)) (range_with_len 0 n) ≡ chunk
  words_are f low long each = chunk_is 4 (λ i. word (f i)) chunk n long (λ i lt. word_taken chunk low (4 * i) (f i) (omega arith) (each i lt))

  ids_are : length chunk ≡ 20 * n → id_bytes (ids_in chunk n) ≡ chunk
  ids_are long = joined_map (λ id. id) (id_at chunk) (range_with_len 0 n) ∙ chunk_is 20 (id_at chunk) chunk n long (λ i lt. refl)

  row_taken : (i : ℕ) → AllBytes chunk → length chunk ≡ 36 * n → i < n → row_bytes (row_at chunk i) ≡ take 36 (drop (36 * i) chunk)
  row_taken i low long lt =
      let at = 36 * i in
      let tree = take 20 (drop at chunk) in
      let a = word (word_at chunk (at + 20)) in
      let b = word (word_at chunk (at + 24)) in
      let c = word (word_at chunk (at + 28)) in
      let d = word (word_at chunk (at + 32)) in
      let wide : length tree ≡ 20 = wide_slice chunk at (omega arith) in
      let cut : drop at chunk ≡ tree ++ (a ++ (b ++ (c ++ (d ++ drop (at + 36) chunk)))) =
      sym (take-append-drop 20 (drop at chunk)) ∙ ap (λ s. tree ++ s) (drop-drop 20 at chunk ∙
      word_cut chunk low (at + 20) _ (at + 24) (omega arith) (omega arith) refl ∙ ap (λ s. a ++ s) (
      word_cut chunk low (at + 24) _ (at + 28) (omega arith) (omega arith) refl ∙ ap (λ s. b ++ s) (
      word_cut chunk low (at + 28) _ (at + 32) (omega arith) (omega arith) refl ∙ ap (λ s. c ++ s) (
      word_cut chunk low (at + 32) _ (at + 36) (omega arith) (omega arith) refl)))) in
      sym (ap (take 36) (cut ∙ sym (append_assoc tree (a ++ (b ++ (c ++ d))) (drop (at + 36) chunk))) ∙ take_at (row_bytes (row_at chunk i)) (drop (at + 36) chunk) 36 (row_wide (row_at chunk i) wide))

  rows_are : AllBytes chunk → length chunk ≡ 36 * n → data_bytes (rows_in chunk n) ≡ chunk
  unfolding row_taken
  rows_are low long =
      joined_map row_bytes (row_at chunk) (range_with_len 0 n) ∙ chunk_is 36 (λ i. row_bytes (row_at chunk i)) chunk n long (λ i lt. row_taken i low long lt)

module _ (bytes : List ℕ) (low : AllBytes bytes) (fine : container_fault bytes ≡ None) where
  abbrev held : Layout
  held = layout_in bytes

  sized : Sized held (told_count bytes) (told_edges bytes)
  sized = record {
    ids = length-map-range_with_len (id_at (id_chunk bytes)) 0 (told_count bytes);
    rows = length-map-range_with_len (row_at (data_chunk bytes)) 0 (told_count bytes);
    words = length-map-range_with_len (word_in (edge_chunk bytes)) 0 (told_edges bytes);
  }

  fans_are : fan_out_fault bytes ≡ None → fan_out_bytes held.ids ≡ fan_out_chunk bytes
  unfolding words_are between_bytes fan_out_tests
  fans_are right =
      words_are (fan_out_chunk bytes) 256 (fan_out held.ids) (between_bytes (chunks_begin bytes) (ids_begin bytes) bytes low) (length_fan_out_chunk bytes fine) (λ i lt.
      eqb-true (word_at (fan_out_chunk bytes) (4 * i)) (fan_out held.ids i)
      (counted_pass (fan_out_test (fan_out_chunk bytes) (chunks_begin bytes) held.ids) 0 256 i i right lt (omega arith)))

  edges_are : edge_bytes held.edges ≡ edge_chunk bytes
  unfolding words_are between_bytes
  edges_are =
      joined_map word (word_in (edge_chunk bytes)) (range_with_len 0 (told_edges bytes))
      ∙ words_are (edge_chunk bytes) (told_edges bytes) (word_in (edge_chunk bytes)) (between_bytes (data_end bytes) (data_end bytes + 4 * told_edges bytes) bytes low) (length_edge_chunk bytes fine) (λ i lt. refl)

  chunks_cut : drop (chunks_begin bytes) bytes ≡ fan_out_chunk bytes ++ (id_chunk bytes ++ (data_chunk bytes ++ edge_chunk bytes))
  unfolding span_cut
  chunks_cut =
      span_cut bytes (chunks_begin bytes) (ids_begin bytes) (further (chunks_begin bytes) 1024) ∙ ap (λ s. fan_out_chunk bytes ++ s) (
      span_cut bytes (ids_begin bytes) (data_begin bytes) (further (ids_begin bytes) (20 * told_count bytes)) ∙ ap (λ s. id_chunk bytes ++ s) (
      span_cut bytes (data_begin bytes) (data_end bytes) (further_on (ids_begin bytes) (told_count bytes)) ∙ ap (λ s. data_chunk bytes ++ s) (
      sym (between_to_end bytes (data_end bytes) (data_end bytes + 4 * told_edges bytes) (le_of_eq (sym (file_filled bytes fine)))))))

  pub file_of_layout : fan_out_fault bytes ≡ None → bytes ≡ file_bytes held
  unfolding sized fans_are ids_are rows_are edges_are chunks_cut between_bytes
  file_of_layout right =
      front_is bytes low fine
      ∙ ap (fronted (ltb 0 (told_edges bytes)) (told_count bytes) (told_edges bytes)) (chunks_cut
      ∙ ap₂ (λ s t. s ++ t) (sym (fans_are right))
      (ap₂ (λ s t. s ++ t) (sym (ids_are (id_chunk bytes) (told_count bytes) (length_id_chunk bytes fine)))
      (ap₂ (λ s t. s ++ t)
      (sym (rows_are (data_chunk bytes) (told_count bytes) (between_bytes (data_begin bytes) (data_end bytes) bytes low) (length_data_chunk bytes fine)))
      (sym edges_are))))
      ∙ sym (file_fronted held (told_count bytes) (told_edges bytes) sized)
