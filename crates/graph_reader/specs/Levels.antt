-- The levels that a file gives. Assumes nothing.
use Rattle.std.specs.Prelude.{ℕ, ◌+◌, ◌*◌, ◌/◌, List, [], map, length, fold, ◌==◌, slice_index, slice_index_or}
use Rattle.std.specs.List.{range_with_len}
use Rattle.history.specs.Generations.{above}
use Rattle.graph_file.specs.Layout.{Row}
use Rattle.graph_reader.specs.Faults.{Test, test}

-- the level in a row: what is above the two lowest bits
abbrev pub row_level : Row → ℕ
row_level r = r.generation / 4

abbrev pub levels_in : List Row → List ℕ
levels_in rows = map row_level rows

-- the level that the rule gives a commit, by the levels of the file: 1 without parents, else one more than the greatest of its parents
abbrev pub level_by : List ℕ → List ℕ → ℕ
level_by levels ps = fold (λ x q. above x (slice_index levels q)) 1 ps

-- the level word of the commit at file position p, where CDAT begins at the byte place `cdat`
abbrev pub level_test : ℕ → List ℕ → List (List ℕ) → ℕ → Test
level_test cdat levels parents p = test (cdat + 36 * p + 28) (slice_index levels p == level_by levels (slice_index_or parents p []))

abbrev pub level_tests : ℕ → List ℕ → List (List ℕ) → List Test
level_tests cdat levels parents = map (level_test cdat levels parents) (range_with_len 0 (length levels))
