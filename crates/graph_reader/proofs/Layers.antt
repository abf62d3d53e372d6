-- The first fault of a file, by the first layer that has one. Assumes nothing.
use Rattle.std.proofs.Common.{◌≡◌, ℕ, List, None, sym, ap, ◌∙◌, ap₂}
use Rattle.std.specs.Option.{option_map}
use Rattle.history.specs.declared.load_fault.ChunkFault.TheVariants.{WrongFanOut, UnorderedId, WrongParent}
use Rattle.history.specs.declared.load_fault.HistoryFault.TheVariants.{WrongLevel}
use Rattle.history.specs.declared.load_fault.LoadFault.TheVariants.{Container, Chunk, History}
use Rattle.graph_reader.specs.Faults.{either, container_fault}
use Rattle.graph_reader.specs.Verdict.{failed_at, parents_read, fan_out_fault, order_fault, chunk_fault, level_fault, file_fault}
use Rattle.graph_reader.proofs.Options.{either_none, mapped_none}

module _ (bytes : List ℕ) where
  -- the levels decide last
  pub wrong_level : None ≡ container_fault bytes → None ≡ chunk_fault bytes → option_map History (option_map WrongLevel (level_fault bytes)) ≡ file_fault bytes
  unfolding file_fault
  wrong_level container chunks =
      ap₂ (λ a b. either (option_map Container a) (either (option_map Chunk b) (option_map History (option_map WrongLevel (level_fault bytes))))) container chunks

  pub no_chunk_fault : fan_out_fault bytes ≡ None → order_fault bytes ≡ None → failed_at (parents_read bytes) ≡ None → None ≡ chunk_fault bytes
  no_chunk_fault counts order parents =
      sym (ap₂ (λ a b. either (option_map WrongFanOut a) (either (option_map UnorderedId b) (option_map WrongParent (failed_at (parents_read bytes))))) counts order
      ∙ ap (option_map WrongParent) parents)

  pub right_parents : None ≡ chunk_fault bytes → failed_at (parents_read bytes) ≡ None
  right_parents e =
      mapped_none WrongParent _ (either_none UnorderedId (order_fault bytes) _ (either_none WrongFanOut (fan_out_fault bytes) _ (sym e)).1).1
