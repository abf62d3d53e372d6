-- The header and the table of chunks of a container without fault, by its sizes. Assumes nothing.
use Rattle.std.proofs.Common.{◌≡◌, ℕ, ◌+◌, ◌*◌, ◌≤◌, Bool, true, false, cond, eqb, ltb, List, [], ◌∷◌, ◌++◌, length, get_or, drop, None, codes, sym, refl, ap, ◌∙◌, ap₂, ⊎_elim, arith}
use Rattle.std.proofs.lemmas.Bool.{eqb-true, lt-ltb, le-ltb}
use Rattle.graph_file.specs.Words.{word, long_word}
use Rattle.graph_file.proofs.Fronts.{front, entries, last_entries}
use Rattle.graph_reader.specs.Bytes.{word_at, long_at, chunks_begin, ids_begin, told_count, data_end, told_edges}
use Rattle.graph_reader.specs.Faults.{container_fault}
use Rattle.graph_reader.proofs.ContainerSizes.{long_enough, header_passes, contents_pass, three_pass, four_pass, data_told, no_edges, some_edges, chunks_told, file_filled, data_behind}
use Rattle.graph_reader.proofs.FileFronts.{header_by, fronted}
use Rattle.graph_reader.proofs.WordBytes.{AllBytes, word_cut, long_cut}

header_word : (b : Bool) → word (16842752 + cond b 4 3 * 256) ≡ 1 ∷ (1 ∷ (cond b 4 3 ∷ (0 ∷ [])))
header_word true = refl
header_word false = refl

module _ (bytes : List ℕ) (low : AllBytes bytes) (fine : container_fault bytes ≡ None) where
  -- a word or a long word of the front, by its test
  word_tested : (at v next : ℕ) → next ≤ 1080 → next ≡ at + 4 → eqb (word_at bytes at) v ≡ true → drop at bytes ≡ word v ++ drop next bytes
  word_tested at v next le e passed = word_cut bytes low at v next (omega (arith, long_enough bytes fine)) e (eqb-true (word_at bytes at) v passed)

  long_tested : (at u v next : ℕ) → next ≤ 1080 → next ≡ at + 8 → eqb (long_at bytes at) u ≡ true → u ≡ v → drop at bytes ≡ long_word v ++ drop next bytes
  long_tested at u v next le e passed is = long_cut bytes low at v next (omega (arith, long_enough bytes fine)) e (eqb-true (long_at bytes at) u passed ∙ is)

  byte : (i v : ℕ) → eqb (get_or bytes i 0) v ≡ true → get_or bytes i 0 ≡ v
  byte i v passed = eqb-true (get_or bytes i 0) v passed

  module _ (b : Bool) (told : get_or bytes 6 0 ≡ cond b 4 3) where
    abbrev begin : ℕ
    begin = front b 0 0 0

    begins : chunks_begin bytes ≡ begin
    begins = ap (λ n. 8 + 12 * (n + 1)) told

    header_cut : bytes ≡ header_by b ++ drop 8 bytes
    unfolding byte header_word
    header_cut =
        let is = header_passes bytes fine in
        let far : 8 ≤ length bytes = omega (arith, long_enough bytes fine) in
        word_cut bytes low 0 1128747080 4 (omega arith) refl
        (omega (arith, byte 0 67 (is 0 (omega arith)), byte 1 71 (is 1 (omega arith)), byte 2 80 (is 2 (omega arith)), byte 3 72 (is 3 (omega arith))))
        ∙ ap (λ s. codes "CGPH" ++ s) (
        word_cut bytes low 4 (16842752 + cond b 4 3 * 256) 8 far refl
        (omega (arith, byte 4 1 (is 4 (omega arith)), byte 5 1 (is 5 (omega arith)), told, byte 7 0 (is 7 (omega arith))))
        ∙ ap (λ s. s ++ drop 8 bytes) (header_word b))

    table_cut : (rest : List ℕ) → drop 44 bytes ≡ last_entries b (told_count bytes) (told_count bytes) (told_edges bytes) ++ rest →
        drop 8 bytes ≡ entries b (told_count bytes) (told_count bytes) (told_edges bytes) ++ rest
    unfolding word_tested long_tested begins
    table_cut rest last =
        let is = contents_pass bytes fine in
        word_tested 8 (word_at (codes "OIDF") 0) 12 (omega arith) refl (is 0 (omega arith)) ∙ ap (λ s. codes "OIDF" ++ s) (
        long_tested 12 (chunks_begin bytes) begin 20 (omega arith) refl (is 1 (omega arith)) begins ∙ ap (λ s. long_word begin ++ s) (
        word_tested 20 (word_at (codes "OIDL") 0) 24 (omega arith) refl (is 2 (omega arith)) ∙ ap (λ s. codes "OIDL" ++ s) (
        long_tested 24 (ids_begin bytes) (begin + 1024) 32 (omega arith) refl (is 3 (omega arith)) (ap (λ n. n + 1024) begins) ∙ ap (λ s. long_word (begin + 1024) ++ s) (
        word_tested 32 (word_at (codes "CDAT") 0) 36 (omega arith) refl (is 4 (omega arith)) ∙ ap (λ s. codes "CDAT" ++ s) (
        long_cut bytes low 36 (begin + 1024 + 20 * told_count bytes) 44 (omega (arith, long_enough bytes fine)) refl (data_told bytes fine ∙ ap (λ n. n + 1024 + 20 * told_count bytes) begins)
        ∙ ap (λ s. long_word (begin + 1024 + 20 * told_count bytes) ++ s) last)))))

    -- with the rest of the table, the whole front
    front_cut : (rest : List ℕ) → drop 44 bytes ≡ last_entries b (told_count bytes) (told_count bytes) (told_edges bytes) ++ rest →
        bytes ≡ fronted b (told_count bytes) (told_edges bytes) rest
    unfolding header_cut table_cut
    front_cut rest last = header_cut ∙ ap (λ s. header_by b ++ s) (table_cut rest last)

    -- the last place of the table is the file's end
    end_told : length bytes ≡ begin + 1024 + 20 * told_count bytes + 36 * told_count bytes + 4 * told_edges bytes
    unfolding begins
    end_told =
        sym (file_filled bytes fine) ∙ ap (λ n. n + 4 * told_edges bytes) (data_behind (ids_begin bytes) (told_count bytes))
        ∙ ap (λ n. n + 1024 + 20 * told_count bytes + 36 * told_count bytes + 4 * told_edges bytes) begins

  three_front : get_or bytes 6 0 ≡ 3 → bytes ≡ fronted false (told_count bytes) (told_edges bytes) (drop 56 bytes)
  unfolding front_cut word_tested long_tested end_told
  three_front three =
      let is = three_pass bytes fine three in
      front_cut false three (drop 56 bytes) (
      word_tested 44 0 48 (omega arith) refl (is 0 (omega arith)) ∙ ap (λ s. word 0 ++ s) (
      long_tested 48 (length bytes) (1080 + 20 * told_count bytes + 36 * told_count bytes + 4 * told_edges bytes) 56 (omega arith) refl (is 2 (omega arith)) (end_told false three)))

  four_front : get_or bytes 6 0 ≡ 4 → bytes ≡ fronted true (told_count bytes) (told_edges bytes) (drop 68 bytes)
  unfolding front_cut word_tested long_tested end_told begins
  four_front four =
      let is = four_pass bytes fine four in
      let place = 1092 + 20 * told_count bytes + 36 * told_count bytes in
      front_cut true four (drop 68 bytes) (
      word_tested 44 (word_at (codes "EDGE") 0) 48 (omega arith) refl (is 0 (omega arith)) ∙ ap (λ s. codes "EDGE" ++ s) (
      long_tested 48 (data_end bytes) place 56 (omega arith) refl (is 1 (omega arith))
      (data_behind (ids_begin bytes) (told_count bytes) ∙ ap (λ n. n + 1024 + 20 * told_count bytes + 36 * told_count bytes) (begins true four)) ∙ ap (λ s. long_word place ++ s) (
      word_tested 56 0 60 (omega arith) refl (is 2 (omega arith)) ∙ ap (λ s. word 0 ++ s) (
      long_tested 60 (length bytes) (place + 4 * told_edges bytes) 68 (omega arith) refl (is 4 (omega arith)) (end_told true four)))))

  -- the front, by the number of extra edges
  pub front_is : bytes ≡ fronted (ltb 0 (told_edges bytes)) (told_count bytes) (told_edges bytes) (drop (chunks_begin bytes) bytes)
  unfolding three_front four_front begins
  front_is =
      let by = λ (b : Bool) (at : ℕ). fronted b (told_count bytes) (told_edges bytes) (drop at bytes) in
      ⊎_elim
      (λ three. three_front three ∙ ap₂ by (sym (le-ltb 0 (told_edges bytes) (omega (arith, no_edges bytes fine three)))) (sym (begins false three)))
      (λ four. four_front four ∙ ap₂ by (sym (lt-ltb 0 (told_edges bytes) (omega (arith, (some_edges bytes fine four).0)))) (sym (begins true four)))
      (chunks_told bytes fine)
