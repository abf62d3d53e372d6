-- What the parts of a file say of its bytes. Assumes nothing.
use Rattle.std.proofs.Common.{◌≡◌, ℕ, ◌+◌, ◌<◌, List, [], ◌∷◌, ◌++◌, length, get_or, take, None, Ok, Option, sym, ap, ◌∙◌, ap₂, arith}
use Rattle.std.proofs.lemmas.List.{take_more}
use Rattle.std.specs.Option.{option_map}
use Rattle.history.specs.declared.load_fault.HistoryFault.{HistoryFault}
use Rattle.history.specs.declared.load_fault.HistoryFault.TheVariants.{WrongLevel}
use Rattle.history.specs.declared.load_fault.LoadFault.TheVariants.{History}
use Rattle.graph_file.specs.Layout.{Row}
use Rattle.graph_reader.specs.declared.parts.Parts.{Parts}
use Rattle.graph_reader.specs.Bytes.{data_begin, layout_in}
use Rattle.graph_reader.specs.ChunkFaults.{order_tests}
use Rattle.graph_reader.specs.Faults.{first_failing, container_fault}
use Rattle.graph_reader.specs.Holding.{Holds}
use Rattle.graph_reader.specs.Levels.{levels_in, level_tests}
use Rattle.graph_reader.specs.PartParents.{part_rows, parents_of_all}
use Rattle.graph_reader.specs.Verdict.{failed_at, listed_in, total_of, parents_read, parents_in, order_fault, chunk_fault, level_fault, file_fault}
use Rattle.graph_reader.proofs.Layers.{right_parents, wrong_level}
use Rattle.graph_reader.proofs.ParentAgain.{all_read}
use Rattle.graph_reader.proofs.Sounding.{faultless}

module _ (bytes : List ℕ) (f : Parts) (h : Holds bytes f) where
  rows_held : part_rows f ≡ (layout_in bytes).rows
  rows_held = cc

  pub parents_held_by : parents_of_all f ≡ parents_read bytes
  parents_held_by = cc

  pub order_held : first_failing (order_tests f.ids.bytes.now f.ids.place f.count) ≡ order_fault bytes
  order_held = cc

  pub parents_right : None ≡ chunk_fault bytes → failed_at (parents_of_all f) ≡ None
  parents_right chunks = ap failed_at parents_held_by ∙ right_parents bytes chunks

  -- where all else is right, the levels decide
  pub levels_decide : None ≡ container_fault bytes → None ≡ chunk_fault bytes → (r : Option HistoryFault) →
      ((all : List (List ℕ)) → parents_of_all f ≡ Ok all → r ≡ option_map WrongLevel (first_failing (level_tests f.rows.place (levels_in (part_rows f)) all))) →
      option_map History r ≡ file_fault bytes
  levels_decide container chunks r tested =
      let ok = all_read f (parents_right chunks) in
      let tests : ℕ → List Row → List (List ℕ) → Option ℕ = λ place rows all. first_failing (level_tests place (levels_in rows) all) in
      let same : tests f.rows.place (part_rows f) ok.0 ≡ level_fault bytes =
      ap₂ (λ place rows. tests place rows ok.0) h.rows_place rows_held
      ∙ ap (tests (data_begin bytes) (layout_in bytes).rows) (sym (ap listed_in (sym parents_held_by ∙ ok.1))) in
      ap (option_map History) (tested ok.0 ok.1 ∙ ap (option_map WrongLevel) same) ∙ wrong_level bytes container chunks

  pub parents_told : file_fault bytes ≡ None → parents_of_all f ≡ Ok (parents_in bytes)
  unfolding parents_held_by
  parents_told fine = parents_held_by ∙ (faultless bytes fine).read

total_push : (xss : List (List ℕ)) (xs : List ℕ) → total_of (xss ++ (xs ∷ [])) ≡ total_of xss + length xs
total_push [] xs = omega arith
total_push (ys ∷ xss) xs = omega (arith, total_push xss xs)

-- one list more
pub total_more : (pss : List (List ℕ)) (p : ℕ) → p < length pss → total_of (take (p + 1) pss) ≡ total_of (take p pss) + length (get_or pss p [])
unfolding total_push
total_more pss p lt = ap total_of (take_more pss p [] lt) ∙ total_push (take p pss) (get_or pss p [])
