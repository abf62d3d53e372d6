-- What a file is refused for: the first fault, layer by layer. Assumes nothing.
use Rattle.std.specs.Prelude.{ℕ, ◌+◌, List, [], ◌∷◌, length, Some, None, Ok, Err, Option, Result}
use Rattle.std.specs.Option.{option_map}
use Rattle.history.specs.declared.load_fault.ChunkFault.TheVariants.{WrongFanOut, UnorderedId, WrongParent}
use Rattle.history.specs.declared.load_fault.HistoryFault.TheVariants.{WrongLevel}
use Rattle.history.specs.declared.load_fault.ChunkFault.{ChunkFault}
use Rattle.history.specs.declared.load_fault.LoadFault.{LoadFault}
use Rattle.history.specs.declared.load_fault.LoadFault.TheVariants.{Container, Chunk, History}
use Rattle.graph_reader.specs.Bytes.{chunks_begin, ids_begin, data_begin, data_end, told_count, fan_out_chunk, id_chunk, layout_in}
use Rattle.graph_reader.specs.Faults.{first_failing, either, container_fault}
use Rattle.graph_reader.specs.ChunkFaults.{fan_out_tests, order_tests}
use Rattle.graph_reader.specs.Parents.{parents_from}
use Rattle.graph_reader.specs.Levels.{levels_in, level_tests}

abbrev pub failed_at : {X : Type 0} → Result X ℕ → Option ℕ
failed_at (Ok x) = None
failed_at (Err place) = Some place

abbrev pub listed_in : {X : Type 0} → Result (List X) ℕ → List X
listed_in (Ok xs) = xs
listed_in (Err place) = []

-- how many parents the commits list in all
abbrev pub total_of : List (List ℕ) → ℕ
total_of [] = 0
total_of (ps ∷ pss) = length ps + total_of pss

module _ (bytes : List ℕ) where
  -- the parents of each commit, as file positions, in file order
  abbrev pub parents_read : Result (List (List ℕ)) ℕ
  parents_read = parents_from (told_count bytes) (data_begin bytes) (data_end bytes) 0 0 (layout_in bytes).rows (layout_in bytes).edges

  abbrev pub parents_in : List (List ℕ)
  parents_in = listed_in parents_read

  abbrev pub fan_out_fault : Option ℕ
  fan_out_fault = first_failing (fan_out_tests (fan_out_chunk bytes) (chunks_begin bytes) (layout_in bytes).ids)

  abbrev pub order_fault : Option ℕ
  order_fault = first_failing (order_tests (id_chunk bytes) (ids_begin bytes) (told_count bytes))

  abbrev pub level_fault : Option ℕ
  level_fault = first_failing (level_tests (data_begin bytes) (levels_in (layout_in bytes).rows) parents_in)

  -- the first fault of what the chunks hold
  abbrev pub chunk_fault : Option ChunkFault
  chunk_fault =
      either (option_map WrongFanOut fan_out_fault)
      (either (option_map UnorderedId order_fault)
      (option_map WrongParent (failed_at parents_read)))

  -- the first fault of a file
  unfoldable pub file_fault : Option LoadFault
  file_fault =
      either (option_map Container (container_fault bytes))
      (either (option_map Chunk chunk_fault)
      (option_map History (option_map WrongLevel level_fault)))
