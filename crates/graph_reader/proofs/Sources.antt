-- What a file without fault says: its parts, and its soundness. Assumes nothing.
use Rattle.std.proofs.Common.{◌≡◌, ℕ, ◌+◌, ◌≤◌, true, false, List, [], ◌∷◌, length, get_or, slice_index_or, is_some, Some, None, Option, refl, sym, ap, ◌∙◌, arith}
use Rattle.std.specs.List.{sum_by, range_with_len}
use Rattle.std.proofs.lemmas.List.FromFn.{length-range_with_len, length-map-range_with_len, fill_by_all}
use Rattle.std.proofs.lemmas.List.Folds.{fold-map}
use Rattle.std.proofs.lemmas.List.Sums.{sum_by-cons, sum_by-le}
use Rattle.std.proofs.lemmas.Bool.{both_ways}
use Rattle.graph_reader.specs.Bytes.{told_count, row_at, data_chunk}
use Rattle.graph_reader.specs.FileCommits.{Sound, file_commit}
use Rattle.graph_reader.specs.Holding.{Holds}
use Rattle.graph_reader.specs.Verdict.{file_fault, parents_in, total_of}
use Rattle.graph_reader.proofs.Sounding.{faultless, file_named, sound}
use Rattle.graph_reader.specs.declared.file.GraphFile.{GraphFile}

none_from_test : {X : Type 0} (o : Option X) → is_some o ≡ false → o ≡ None
none_from_test None e = refl
none_from_test (Some x) e = absurd (both_ways true e refl)

-- the lengths of lists, one after the other
totals : (pss : List (List ℕ)) → sum_by length pss ≡ total_of pss
totals [] = refl
totals (ps ∷ pss) = omega (arith, sum_by-cons length ps pss, totals pss)

totals_at : (pss : List (List ℕ)) (n : ℕ) → length pss ≡ n → sum_by (λ p. length (get_or pss p [])) (range_with_len 0 n) ≡ total_of pss
totals_at pss n long =
    sym (fold-map (λ a ps. a + length ps) (λ p. get_or pss p []) 0 (range_with_len 0 n))
    ∙ ap (sum_by length) (sym (fill_by_all (λ p. get_or pss p []) pss n [] long (λ k lt. refl)))
    ∙ totals pss

module _ (f : GraphFile) where
  pub no_fault : file_fault f.file.now ≡ None
  no_fault = none_from_test (file_fault f.file.now) f.faultless

  pub parts_held : Holds f.file.now f.parts
  parts_held =
      record {
        count = f.counted;
        entries = f.edged;
        ids = f.ids;
        rows = f.rows;
        edges = f.edges;
        ids_place = f.ids_at;
        rows_place = f.rows_at;
        edges_place = f.edges_at;
      }

  pub file_sound : Sound f.file.now
  file_sound = sound f.file.now f.small no_fault

  pub parents_long : length (parents_in f.file.now) ≡ told_count f.file.now
  parents_long =
      let bytes = f.file.now in
      (file_named bytes (faultless bytes no_fault)).long ∙ length-map-range_with_len (row_at (data_chunk bytes)) 0 (told_count bytes)

  abbrev pub listed_at : ℕ → ℕ
  listed_at p = length (file_commit f.file.now p).parents

  module _ (n : ℕ) (e : n ≡ told_count f.file.now) where
    pub total_told : sum_by listed_at (range_with_len 0 n) ≡ total_of (parents_in f.file.now)
    total_told = totals_at (parents_in f.file.now) n (parents_long ∙ sym e)

    pub total_few : sum_by listed_at (range_with_len 0 n) ≤ 4194304
    total_few =
        let bytes = f.file.now in
        let named = file_named bytes (faultless bytes no_fault) in
        omega (arith, sum_by-le listed_at 64 (range_with_len 0 n) (λ k d lt. named.few (slice_index_or (range_with_len 0 n) k d)), length-range_with_len 0 n, e, f.counted, f.parts.few)
