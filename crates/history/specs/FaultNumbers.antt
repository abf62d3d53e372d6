-- Layer, cause and byte place of each fault of a file. Assumes nothing.
use Rattle.std.specs.Prelude.{ℕ}
use Rattle.history.specs.declared.load_fault.ContainerFault.TheVariants.{TooShort, WrongHeader, WrongContents}
use Rattle.history.specs.declared.load_fault.ChunkFault.TheVariants.{WrongFanOut, UnorderedId, WrongParent}
use Rattle.history.specs.declared.load_fault.HistoryFault.TheVariants.{WrongLevel}
use Rattle.history.specs.declared.load_fault.LoadFault.{LoadFault}
use Rattle.history.specs.declared.load_fault.LoadFault.TheVariants.{Container, Chunk, History}

abbrev pub fault_layer : LoadFault → ℕ
fault_layer (Container f) = 1
fault_layer (Chunk f) = 2
fault_layer (History f) = 3

-- 11 the container, 12 fan-out and ids, 13 parent words and EDGE, 14 levels
abbrev pub fault_cause : LoadFault → ℕ
fault_cause (Container f) = 11
fault_cause (Chunk (WrongFanOut place)) = 12
fault_cause (Chunk (UnorderedId place)) = 12
fault_cause (Chunk (WrongParent place)) = 13
fault_cause (History f) = 14

abbrev pub fault_place : LoadFault → ℕ
fault_place (Container (TooShort place)) = place
fault_place (Container (WrongHeader place)) = place
fault_place (Container (WrongContents place)) = place
fault_place (Chunk (WrongFanOut place)) = place
fault_place (Chunk (UnorderedId place)) = place
fault_place (Chunk (WrongParent place)) = place
fault_place (History (WrongLevel place)) = place
