-- The file of a history is never refused. Assumes nothing.
use Rattle.std.proofs.Common.{◌≡◌, ℕ, ◌≤◌, List, map, length, None, Ok, sym, ap, ◌∙◌, ap₂}
use Rattle.std.specs.Option.{option_map}
use Rattle.std.proofs.lemmas.List.{length-map}
use Rattle.history.specs.declared.load_fault.HistoryFault.TheVariants.{WrongLevel}
use Rattle.history.specs.declared.load_fault.LoadFault.TheVariants.{History}
use Rattle.history.specs.History.{Commit, commit_of, parent_total, Wellformed}
use Rattle.graph_file.specs.Encoding.{FileOrder, layout_of}
use Rattle.graph_file.specs.Layout.{file_bytes}
use Rattle.graph_file.proofs.Filing.{ids_rising}
use Rattle.graph_reader.specs.Bytes.{data_begin, data_end, told_count, layout_in}
use Rattle.graph_reader.specs.Faults.{first_failing}
use Rattle.graph_reader.specs.Levels.{levels_in, level_tests}
use Rattle.graph_reader.specs.Parents.{parents_from}
use Rattle.graph_reader.specs.Verdict.{failed_at, listed_in, total_of, parents_read, parents_in, level_fault, file_fault}
use Rattle.graph_reader.proofs.Layers.{no_chunk_fault, wrong_level}
use Rattle.graph_reader.proofs.LevelsRead.{levels_pass}
use Rattle.graph_reader.proofs.ParentsRead.{named_parents, parents_read_back}
use Rattle.graph_reader.proofs.PlainFiles.{plain}
use Rattle.graph_reader.proofs.ReadBack.{container_back, told_count_back, layout_back, fan_out_back, order_back}
use Rattle.graph_reader.proofs.Totals.{total_back}

module _ (h : List Commit) (order : List ℕ) (w : Wellformed h) (s : FileOrder h order) (few : length h ≤ 65536) where
  -- bytes that hold the layout of the history
  module _ (bytes : List ℕ) (count : told_count bytes ≡ length h) (holds : layout_in bytes ≡ layout_of h order) where
    pub read_as : parents_read bytes ≡ Ok (map (named_parents h order) order)
    read_as =
        ap₂ (λ n l. parents_from n (data_begin bytes) (data_end bytes) 0 0 l.rows l.edges) count holds
        ∙ parents_read_back h order s w (data_begin bytes) (data_end bytes) few

    levels_as : level_fault bytes ≡ None
    levels_as =
        ap₂ (λ l r. first_failing (level_tests (data_begin bytes) (levels_in l.rows) (listed_in r))) holds read_as
        ∙ levels_pass h w order s (data_begin bytes)

  module _ (all : parent_total h ≤ 262144) where
    pub accepted_count : told_count (file_bytes (layout_of h order)) ≡ length h
    accepted_count = told_count_back (layout_of h order) (plain h order w s few all) ∙ length-map order (λ n. (commit_of h n).id) ∙ s.long

    accepted_parents : parents_read (file_bytes (layout_of h order)) ≡ Ok (map (named_parents h order) order)
    accepted_parents = read_as (file_bytes (layout_of h order)) accepted_count (layout_back (layout_of h order) (plain h order w s few all))

    pub accepted_total : total_of (parents_in (file_bytes (layout_of h order))) ≡ parent_total h
    unfolding accepted_parents
    accepted_total = ap (λ r. total_of (listed_in r)) accepted_parents ∙ total_back h order s

    pub accepted : file_fault (file_bytes (layout_of h order)) ≡ None
    unfolding levels_as accepted_parents
    accepted =
        let l = layout_of h order in
        let fits = plain h order w s few all in
        sym (wrong_level (file_bytes l) (sym (container_back l fits))
        (no_chunk_fault (file_bytes l) (fan_out_back l fits) (order_back l fits (ids_rising h order s)) (ap failed_at accepted_parents)))
        ∙ ap (λ o. option_map History (option_map WrongLevel o)) (levels_as (file_bytes l) accepted_count (layout_back l fits))
