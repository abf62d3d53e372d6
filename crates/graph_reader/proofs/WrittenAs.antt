-- A file without fault is the one that is written of the history it describes. Assumes nothing.
use Rattle.std.proofs.Common.{◌≡◌, ℕ, suc, ◌+◌, ◌*◌, ◌/◌, ◌%◌, ◌<◌, List, [], ◌∷◌, map, length, get_or, None, sym, refl, ap, ◌∙◌, subst, ap₂, arith}
use Rattle.std.specs.List.{flat_map}
use Rattle.std.proofs.lemmas.List.FromFn.{length-map-range_with_len, get_or-map-range_with_len, fill_by_all}
use Rattle.std.proofs.lemmas.List.{length-map, get_or-map, ext_get_or}
use Rattle.history.specs.Generations.{levels_of}
use Rattle.history.specs.History.{Commit, commit_of, parents_of}
use Rattle.graph_file.specs.Encoding.{FileOrder, position, positions, rows_from, layout_of}
use Rattle.graph_file.specs.Layout.{Row, file_bytes}
use Rattle.graph_file.specs.Encoding.{extra}
use Rattle.graph_file.specs.ParentWords.{edge_words}
use Rattle.graph_file.proofs.DataRows.{blank_row, same_row}
use Rattle.graph_file.proofs.PositionWords.{extra_positions, all_edges_by_positions, first_by_positions, second_by_positions}
use Rattle.graph_file.proofs.FileParts.{same_layout}
use Rattle.graph_file.proofs.Filing.{ordered_position}
use Rattle.graph_reader.specs.Bytes.{id_at, row_at, told_count, id_chunk, data_chunk, layout_in}
use Rattle.graph_reader.specs.FileCommits.{file_commit, file_level, renumbered}
use Rattle.graph_reader.specs.Verdict.{parents_in, file_fault}
use Rattle.graph_reader.proofs.ChunkItems.{joined_map}
use Rattle.graph_reader.proofs.LayoutBytes.{file_of_layout}
use Rattle.graph_reader.proofs.ParentCodes.{Held, Encodes}
use Rattle.graph_reader.proofs.ParentsRead.{named_parents}
use Rattle.graph_reader.proofs.Renumbering.{mapped_back}
use Rattle.graph_reader.proofs.Sounding.{Faultless, faultless, file_named, low_small}
use Rattle.graph_reader.proofs.WordBytes.{AllBytes}

-- a level and a date, as the words that hold them
split_date : (level date generation low : ℕ) → level ≡ generation / 4 → date ≡ generation % 4 * 4294967296 + low → low < 4294967296 →
    (generation ≡ level * 4 + date / 4294967296) × (low ≡ date % 4294967296)
split_date level date generation low a b lt = (omega arith, omega arith)

module _ (h : List Commit) (order : List ℕ) where
  -- what a row says of commit n, but for its parents
  record Describes (n : ℕ) (r : Row) : Type 0 where
    tree : r.tree ≡ (commit_of h n).tree
    dated : (r.generation ≡ get_or (levels_of h) n 0 * 4 + (commit_of h n).date / 4294967296) × (r.low ≡ (commit_of h n).date % 4294967296)

  -- positions that were numbered are found again
  found_again : FileOrder h order → (ps : List ℕ) → Held (length order) ps → positions order (map (λ q. get_or order q 0) ps) ≡ ps
  found_again s ps held = mapped_back (position order) (λ q. get_or order q 0) ps (λ j lt. ordered_position h order s (get_or ps j 0) _ (held j lt) refl)

  rows_written : (next : ℕ) (ns : List ℕ) (rows : List Row) → Encodes next rows (map (named_parents h order) ns) →
      ((k : ℕ) → k < length ns → Describes (get_or ns k 0) (get_or rows k blank_row)) → rows ≡ rows_from h order next ns
  rows_written next [] [] e each = refl
  rows_written next [] (r ∷ rows) e each = absurd e
  rows_written next (n ∷ ns) [] e each = absurd e
  rows_written next (n ∷ ns) (r ∷ rows) e each =
      let here = each 0 (omega arith) in
      ap₂ (λ x xs. x ∷ xs)
      (same_row here.tree (e.0 ∙ sym (first_by_positions order (parents_of h n))) (e.1 ∙ sym (second_by_positions order next (parents_of h n))) here.dated.0 here.dated.1)
      (rows_written (next + extra (named_parents h order n)) ns rows e.2 (λ k lt. each (suc k) (omega arith))
      ∙ ap (λ x. rows_from h order (next + x) ns) (extra_positions order (parents_of h n)))

module _ (bytes : List ℕ) (low : AllBytes bytes) (s : Faultless bytes) (h : List Commit) (order : List ℕ) (ordered : FileOrder h order) (long : length order ≡ told_count bytes)
    (commits : (p : ℕ) → p < told_count bytes → commit_of h (get_or order p 0) ≡ renumbered order (file_commit bytes p))
    (levels : (p : ℕ) → p < told_count bytes → get_or (levels_of h) (get_or order p 0) 0 ≡ file_level bytes p) where
  -- the parents by their positions
  parents_written : parents_in bytes ≡ map (named_parents h order) order
  parents_written =
      let named = file_named bytes s in
      let counted : length (parents_in bytes) ≡ length order = named.long ∙ length-map-range_with_len (row_at (data_chunk bytes)) 0 (told_count bytes) ∙ sym long in
      ext_get_or [] (parents_in bytes) (map (named_parents h order) order) (counted ∙ sym (length-map order (named_parents h order))) λ p lt.
      sym (get_or-map (named_parents h order) order p 0 [] (subst (λ n. p < n) counted lt)
      ∙ ap (λ c. positions order c.parents) (commits p (subst (λ n. p < n) (counted ∙ long) lt))
      ∙ found_again h order ordered (get_or (parents_in bytes) p []) (subst (λ n. Held n (get_or (parents_in bytes) p [])) (sym long) (named.held p)))

  ids_written : (layout_in bytes).ids ≡ (layout_of h order).ids
  ids_written =
      sym (fill_by_all (id_at (id_chunk bytes)) (map (λ n. (commit_of h n).id) order) (told_count bytes) [] (length-map order (λ n. (commit_of h n).id) ∙ long) λ p lt.
      get_or-map (λ n. (commit_of h n).id) order p 0 [] (subst (λ n. p < n) (sym long) lt) ∙ ap (λ c. c.id) (commits p lt))

  row_written : (p : ℕ) → p < told_count bytes → Describes h order (get_or order p 0) (row_at (data_chunk bytes) p)
  row_written p lt =
      let r = row_at (data_chunk bytes) p in
      record {
        tree = ap (λ c. c.tree) (sym (commits p lt));
        dated = split_date (get_or (levels_of h) (get_or order p 0) 0) (commit_of h (get_or order p 0)).date r.generation r.low (levels p lt) (ap (λ c. c.date) (commits p lt))
            (low_small bytes low p);
      }

  rows_are : (layout_in bytes).rows ≡ (layout_of h order).rows
  rows_are =
      rows_written h order 0 order (layout_in bytes).rows (subst (Encodes 0 (layout_in bytes).rows) parents_written (file_named bytes s).encodes) λ p l.
      let lt : p < told_count bytes = subst (λ n. p < n) long l in
      subst (Describes h order (get_or order p 0)) (sym (get_or-map-range_with_len (row_at (data_chunk bytes)) 0 (told_count bytes) p p blank_row lt (omega arith))) (row_written p lt)

  edges_are : (layout_in bytes).edges ≡ (layout_of h order).edges
  edges_are = (file_named bytes s).words_are ∙ ap (flat_map edge_words) parents_written ∙ joined_map edge_words (named_parents h order) order
      ∙ sym (all_edges_by_positions order h order)

  layout_written : layout_in bytes ≡ layout_of h order
  layout_written = same_layout ids_written rows_are edges_are

pub written_as : (bytes : List ℕ) → ((i : ℕ) → get_or bytes i 0 < 256) → file_fault bytes ≡ None → (h : List Commit) (order : List ℕ) → FileOrder h order →
    length order ≡ told_count bytes → ((p : ℕ) → p < told_count bytes → commit_of h (get_or order p 0) ≡ renumbered order (file_commit bytes p)) →
    ((p : ℕ) → p < told_count bytes → get_or (levels_of h) (get_or order p 0) 0 ≡ file_level bytes p) → bytes ≡ file_bytes (layout_of h order)
written_as bytes low fine h order ordered long commits levels =
    let s = faultless bytes fine in
    file_of_layout bytes low s.container s.fan_out ∙ ap file_bytes (layout_written bytes low s h order ordered long commits levels)
