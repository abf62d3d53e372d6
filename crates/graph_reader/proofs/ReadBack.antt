-- The file of a layout, read back. Assumes nothing.
use Rattle.std.proofs.Common.{◌≡◌, ℕ, ◌+◌, ◌-◌, ◌*◌, ◌<◌, true, ltb, List, [], ◌++◌, length, get_or, take, None, sym, refl, ap, ◌∙◌, ap₂, arith}
use Rattle.std.specs.List.{between}
use Rattle.std.proofs.lemmas.List.{append_assoc, append-nil, length-append, take_at, drop_at}
use Rattle.std.proofs.lemmas.Bool.{eq-eqb}
use Rattle.history.specs.Ids.{precedes}
use Rattle.graph_file.specs.Layout.{Layout, row_bytes, fan_out_bytes, id_bytes, data_bytes, edge_bytes, first_place, header, contents, file_bytes}
use Rattle.graph_file.proofs.DataRows.{blank_row, row_wide}
use Rattle.graph_file.proofs.EdgeWords.{length_edge_bytes}
use Rattle.graph_file.proofs.FileParts.{chunk_bytes, same_layout, length_fan_out_bytes, length_id_bytes, length_data_bytes, chunks_long}
use Rattle.graph_file.proofs.Fronts.{length_front}
use Rattle.graph_reader.specs.Bytes.{id_at, ids_in, rows_in, words_in, chunks_begin, ids_begin, data_begin, data_end, told_count, told_edges, fan_out_chunk, id_chunk, data_chunk, edge_chunk, layout_in}
use Rattle.graph_reader.specs.ChunkFaults.{fan_out_test, fan_out_tests, order_test, order_tests}
use Rattle.graph_reader.specs.Faults.{first_failing, container_fault}
use Rattle.graph_reader.specs.Verdict.{fan_out_fault, order_fault}
use Rattle.graph_reader.proofs.ContainerSizes.{data_behind}
use Rattle.graph_reader.proofs.CountedTests.{none_fails}
use Rattle.graph_reader.proofs.FileFronts.{fronted, file_fronted}
use Rattle.graph_reader.proofs.PlainLayouts.{Plain}
use Rattle.graph_reader.proofs.ReadChunks.{id_back, ids_back, rows_back, words_back, fan_back}
use Rattle.graph_reader.proofs.ReadFronts.{count_back, front_fine, edges_back}

-- a part is what stands between its places
part_between : (xs a c d : List ℕ) (i j : ℕ) → xs ≡ a ++ (c ++ d) → length a ≡ i → i + length c ≡ j → between i j xs ≡ c
part_between xs a c d i j is from to =
    ap (between i j) is ∙ ap (take (j - i)) (drop_at a (c ++ d) i from) ∙ take_at c d (j - i) (omega arith)

module _ (l : Layout) (plain : Plain l) where
  abbrev commits : ℕ
  commits = length l.ids

  abbrev words : ℕ
  words = length l.edges

  abbrev bytes : List ℕ
  bytes = file_bytes l

  rows_wide : (i : ℕ) → i < length l.rows → length (row_bytes (get_or l.rows i blank_row)) ≡ 36
  rows_wide i lt = row_wide (get_or l.rows i blank_row) (plain.trees_wide i lt)

  ids_long : length (id_bytes l.ids) ≡ 20 * commits
  ids_long = length_id_bytes l.ids plain.ids_wide

  rows_long : length (data_bytes l.rows) ≡ 36 * commits
  unfolding rows_wide
  rows_long = length_data_bytes l.rows rows_wide ∙ ap (λ n. 36 * n) plain.counted

  all_long : length (chunk_bytes l) ≡ 1024 + 20 * commits + 36 * commits + 4 * words
  unfolding rows_wide
  all_long = chunks_long l plain.ids_wide rows_wide ∙ ap (λ n. 1024 + 20 * commits + 36 * n + 4 * words) plain.counted

  is_fronted : bytes ≡ fronted (ltb 0 words) commits words (chunk_bytes l)
  is_fronted = file_fronted l commits words (record { ids = refl; rows = plain.counted; words = refl })

  pub container_back : container_fault bytes ≡ None
  unfolding all_long is_fronted
  container_back = ap container_fault is_fronted ∙ front_fine commits words (chunk_bytes l) plain.few all_long plain.edged

  pub told_count_back : told_count bytes ≡ commits
  unfolding is_fronted
  told_count_back = ap told_count is_fronted ∙ count_back (ltb 0 words) commits words (chunk_bytes l) plain.few

  pub told_edges_back : told_edges bytes ≡ words
  unfolding all_long is_fronted
  told_edges_back = ap told_edges is_fronted ∙ edges_back commits words (chunk_bytes l) plain.few all_long plain.edged

  pub data_begin_back : data_begin bytes ≡ first_place l.edges + 1024 + 20 * commits
  data_begin_back = ap (λ n. first_place l.edges + 1024 + 20 * n) told_count_back

  pub data_end_back : data_end bytes ≡ first_place l.edges + 1024 + 56 * commits
  data_end_back = ap (λ n. first_place l.edges + 1024 + 56 * n) told_count_back

  -- what stands in front of the chunks, and of each
  abbrev before_fans : List ℕ
  before_fans = header l.edges ++ contents l

  abbrev before_ids : List ℕ
  before_ids = before_fans ++ fan_out_bytes l.ids

  abbrev before_rows : List ℕ
  before_rows = before_ids ++ id_bytes l.ids

  abbrev before_edges : List ℕ
  before_edges = before_rows ++ data_bytes l.rows

  at_ids : bytes ≡ before_ids ++ (id_bytes l.ids ++ (data_bytes l.rows ++ edge_bytes l.edges))
  at_ids = sym (append_assoc before_fans (fan_out_bytes l.ids) (id_bytes l.ids ++ (data_bytes l.rows ++ edge_bytes l.edges)))

  at_rows : bytes ≡ before_rows ++ (data_bytes l.rows ++ edge_bytes l.edges)
  unfolding at_ids
  at_rows = at_ids ∙ sym (append_assoc before_ids (id_bytes l.ids) (data_bytes l.rows ++ edge_bytes l.edges))

  at_edges : bytes ≡ before_edges ++ (edge_bytes l.edges ++ [])
  unfolding at_rows
  at_edges = at_rows ∙ sym (append_assoc before_rows (data_bytes l.rows) (edge_bytes l.edges)) ∙ ap (λ s. before_edges ++ s) (sym (append-nil (edge_bytes l.edges)))

  ids_from : length before_ids ≡ ids_begin bytes
  ids_from = length-append before_fans (fan_out_bytes l.ids) ∙ ap₂ (λ x y. x + y) (length_front l) (length_fan_out_bytes l.ids)

  rows_from : length before_rows ≡ data_begin bytes
  unfolding ids_from ids_long
  rows_from = length-append before_ids (id_bytes l.ids) ∙ ap₂ (λ x y. x + y) ids_from ids_long ∙ sym data_begin_back

  edges_from : length before_edges ≡ data_end bytes
  unfolding rows_from rows_long
  edges_from =
      length-append before_rows (data_bytes l.rows) ∙ ap₂ (λ x y. x + y) (rows_from ∙ data_begin_back) rows_long
      ∙ sym (data_end_back ∙ data_behind (ids_begin bytes) commits)

  pub fan_out_chunk_back : fan_out_chunk bytes ≡ fan_out_bytes l.ids
  unfolding part_between
  fan_out_chunk_back =
      part_between bytes before_fans (fan_out_bytes l.ids) (id_bytes l.ids ++ (data_bytes l.rows ++ edge_bytes l.edges)) (chunks_begin bytes) (ids_begin bytes) refl (length_front l)
      (ap (λ n. chunks_begin bytes + n) (length_fan_out_bytes l.ids))

  pub id_chunk_back : id_chunk bytes ≡ id_bytes l.ids
  unfolding part_between at_ids ids_from ids_long
  id_chunk_back =
      part_between bytes before_ids (id_bytes l.ids) (data_bytes l.rows ++ edge_bytes l.edges) (ids_begin bytes) (data_begin bytes) at_ids ids_from
      (ap (λ n. ids_begin bytes + n) ids_long ∙ sym data_begin_back)

  pub data_chunk_back : data_chunk bytes ≡ data_bytes l.rows
  unfolding part_between at_rows rows_from rows_long
  data_chunk_back =
      part_between bytes before_rows (data_bytes l.rows) (edge_bytes l.edges) (data_begin bytes) (data_end bytes) at_rows rows_from
      (ap₂ (λ x y. x + y) data_begin_back rows_long ∙ sym (data_end_back ∙ data_behind (ids_begin bytes) commits))

  pub edge_chunk_back : edge_chunk bytes ≡ edge_bytes l.edges
  unfolding part_between at_edges edges_from
  edge_chunk_back =
      part_between bytes before_edges (edge_bytes l.edges) [] (data_end bytes) (data_end bytes + 4 * told_edges bytes) at_edges edges_from
      (ap (λ n. data_end bytes + n) (length_edge_bytes l.edges ∙ ap (λ n. 4 * n) (sym told_edges_back)))

  pub layout_back : layout_in bytes ≡ l
  layout_back =
      same_layout
      (ap₂ ids_in id_chunk_back told_count_back ∙ ids_back l.ids plain.ids_wide)
      (ap₂ rows_in data_chunk_back (told_count_back ∙ sym plain.counted) ∙ rows_back l.rows plain.trees_wide plain.words)
      (ap₂ words_in edge_chunk_back told_edges_back ∙ words_back l.edges plain.edge_words)

  pub fan_out_back : fan_out_fault bytes ≡ None
  unfolding fan_out_tests
  fan_out_back =
      let place = chunks_begin bytes in
      ap₂ (λ chunk ids. first_failing (fan_out_tests chunk place ids)) fan_out_chunk_back (ap (λ m. m.ids) layout_back)
      ∙ none_fails (fan_out_test (fan_out_bytes l.ids) place l.ids) 0 256 (λ i lt. eq-eqb _ _ (fan_back l.ids plain.few 256 (0 + i) (omega arith)))

  pub order_back : ((i j : ℕ) → i < j → j < commits → precedes (get_or l.ids i []) (get_or l.ids j []) ≡ true) → order_fault bytes ≡ None
  order_back rising =
      let chunk = id_bytes l.ids in
      let place = ids_begin bytes in
      let back = id_back l.ids plain.ids_wide in
      ap₂ (λ chunk n. first_failing (order_tests chunk place n)) id_chunk_back told_count_back
      ∙ none_fails (order_test chunk place) 1 (commits - 1) (λ i lt.
      ap₂ precedes (ap (id_at chunk) (let z : 1 + i - 1 ≡ i = omega arith in z) ∙ back i (omega arith)) (back (1 + i) (omega arith)) ∙ rising i (1 + i) (omega arith) (omega arith))
