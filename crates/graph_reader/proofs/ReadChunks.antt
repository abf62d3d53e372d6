-- The items of a chunk, read back. Assumes nothing.
use Rattle.std.proofs.Common.{◌≡◌, ℕ, suc, ◌+◌, ◌*◌, ◌<◌, ◌≤◌, leb, List, [], ◌∷◌, ◌++◌, length, get_or, take, drop, sym, refl, ap, ◌∙◌, arith}
use Rattle.std.specs.List.{flat_map, range_with_len}
use Rattle.std.proofs.lemmas.List.FromFn.{fill_by_all, length-range_with_len, get_or-range_with_len}
use Rattle.std.proofs.lemmas.List.{append_assoc, take_at, drop_at, drop-drop}
use Rattle.std.proofs.lemmas.Bool.{cond_both}
use Rattle.graph_file.specs.Layout.{Row, row_bytes, fan_out, id_bytes, data_bytes, edge_bytes}
use Rattle.graph_file.specs.Words.{word}
use Rattle.graph_file.proofs.DataRows.{blank_row, row_wide, same_row}
use Rattle.graph_reader.specs.Bytes.{word_at, id_at, ids_in, row_at, rows_in, word_in, words_in}
use Rattle.graph_reader.proofs.ChunkItems.{item_cut, item_back}
use Rattle.graph_reader.proofs.PlainLayouts.{Fits}
use Rattle.graph_reader.proofs.WordBytes.{word_first, word_at_drop}

module _ (ids : List (List ℕ)) (wide : (i : ℕ) → i < length ids → length (get_or ids i []) ≡ 20) where
  pub id_back : (i : ℕ) → i < length ids → id_at (id_bytes ids) i ≡ get_or ids i []
  id_back i lt = item_back 20 (λ id. id) [] ids i lt wide

  pub ids_back : ids_in (id_bytes ids) (length ids) ≡ ids
  ids_back = sym (fill_by_all (id_at (id_bytes ids)) ids (length ids) [] refl (λ i lt. sym (id_back i lt)))

-- a word among words
word_item : {X : Type 0} (f : X → ℕ) (xs : List X) (d : X) (i : ℕ) → i < length xs → f (get_or xs i d) < 4294967296 → word_at (flat_map (λ x. word (f x)) xs) (4 * i) ≡ f (get_or xs i d)
word_item f xs d i lt small =
    let chunk = flat_map (λ x. word (f x)) xs in
    word_at_drop (4 * i) chunk 0 (4 * i) (omega arith)
    ∙ ap (λ s. word_at s 0) (item_cut 4 (λ x. word (f x)) d xs i lt (λ _ _. refl))
    ∙ word_first (f (get_or xs i d)) (drop (4 * (i + 1)) chunk) small

pub words_back : (words : List ℕ) → ((i : ℕ) → i < length words → get_or words i 0 < 4294967296) → words_in (edge_bytes words) (length words) ≡ words
unfolding word_item
words_back words small = sym (fill_by_all (word_in (edge_bytes words)) words (length words) 0 refl (λ i lt. sym (word_item (λ w. w) words 0 i lt (small i lt))))

fan_out_few : (ids : List (List ℕ)) (byte : ℕ) → fan_out ids byte ≤ length ids
fan_out_few [] byte = omega arith
fan_out_few (id ∷ ids) byte =
    cond_both (leb (get_or id 0 0) byte) 1 0 (λ n. n + fan_out ids byte ≤ suc (length ids)) (λ _. omega (arith, fan_out_few ids byte)) (λ _. omega (arith, fan_out_few ids byte))

pub fan_back : (ids : List (List ℕ)) → length ids ≤ 65536 → (n i : ℕ) → i < n → word_at (flat_map (λ k. word (fan_out ids k)) (range_with_len 0 n)) (4 * i) ≡ fan_out ids i
unfolding word_item fan_out_few
fan_back ids few n i lt =
    let here : get_or (range_with_len 0 n) i 0 ≡ i = get_or-range_with_len 0 n i 0 lt ∙ (let z : 0 + i ≡ i = omega arith in z) in
    word_item (fan_out ids) (range_with_len 0 n) 0 i (omega (arith, length-range_with_len 0 n)) (omega (arith, fan_out_few ids (get_or (range_with_len 0 n) i 0)))
    ∙ ap (fan_out ids) here

-- a row in front of others
module _ (chunk : List ℕ) (at : ℕ) (r : Row) (rest : List ℕ) (is : drop at chunk ≡ row_bytes r ++ rest) (wide : length r.tree ≡ 20) (fits : Fits r) where
  abbrev words : List ℕ
  words = word r.first ++ (word r.second ++ (word r.generation ++ word r.low))

  tree_first : drop at chunk ≡ r.tree ++ (words ++ rest)
  tree_first = is ∙ append_assoc r.tree words rest

  words_next : drop (at + 20) chunk ≡ words ++ rest
  unfolding tree_first
  words_next = sym (drop-drop 20 at chunk) ∙ ap (drop 20) tree_first ∙ drop_at r.tree (words ++ rest) 20 wide

  field : (k here v : ℕ) → here ≡ at + 20 + k → word_at (words ++ rest) k ≡ v → word_at chunk here ≡ v
  unfolding words_next
  field k here v e back = word_at_drop (at + 20) chunk k here e ∙ ap (λ s. word_at s k) words_next ∙ back

  row_of : record { tree = take 20 (drop at chunk); first = word_at chunk (at + 20); second = word_at chunk (at + 24); generation = word_at chunk (at + 28); low = word_at chunk (at + 32) } ≡ r
  unfolding tree_first field
  row_of =
      let t : take 20 (drop at chunk) ≡ r.tree = ap (take 20) tree_first ∙ take_at r.tree (words ++ rest) 20 wide in
      let a = field 0 (at + 20) r.first (omega arith) (word_first r.first [] fits.first) in
      let b = field 4 (at + 24) r.second (omega arith) (word_first r.second [] fits.second) in
      let c = field 8 (at + 28) r.generation (omega arith) (word_first r.generation [] fits.generation) in
      let d = field 12 (at + 32) r.low (omega arith) (word_first r.low [] fits.low) in
      same_row t a b c d

module _ (rows : List Row) (wide : (i : ℕ) → i < length rows → length (get_or rows i blank_row).tree ≡ 20) (fits : (i : ℕ) → i < length rows → Fits (get_or rows i blank_row)) where
  row_back : (i : ℕ) → i < length rows → row_at (data_bytes rows) i ≡ get_or rows i blank_row
  unfolding row_of
  row_back i lt =
      row_of (data_bytes rows) (36 * i) (get_or rows i blank_row) (drop (36 * (i + 1)) (data_bytes rows))
      (item_cut 36 row_bytes blank_row rows i lt (λ k l. row_wide (get_or rows k blank_row) (wide k l))) (wide i lt) (fits i lt)

  pub rows_back : rows_in (data_bytes rows) (length rows) ≡ rows
  unfolding row_back
  rows_back = sym (fill_by_all (row_at (data_bytes rows)) rows (length rows) blank_row refl (λ i lt. sym (row_back i lt)))
