-- The commits that a file describes, in file order. Assumes nothing.
use Rattle.std.specs.Prelude.{◌≡◌, ℕ, ◌+◌, ◌*◌, ◌%◌, ◌<◌, ◌≤◌, true, List, [], map, length, fold, slice_index, slice_index_or}
use Rattle.history.specs.Generations.{above}
use Rattle.history.specs.History.{Commit}
use Rattle.history.specs.Ids.{precedes}
use Rattle.graph_reader.specs.Bytes.{id_at, row_at, told_count, id_chunk, data_chunk}
use Rattle.graph_reader.specs.Levels.{row_level}
use Rattle.graph_reader.specs.Verdict.{parents_in}

-- the commit at file position p, its parents as file positions
abbrev pub file_commit : List ℕ → ℕ → Commit
file_commit bytes p =
    record {
      id = id_at (id_chunk bytes) p;
      tree = (row_at (data_chunk bytes) p).tree;
      date = (row_at (data_chunk bytes) p).generation % 4 * 4294967296 + (row_at (data_chunk bytes) p).low;
      parents = slice_index_or (parents_in bytes) p [];
    }

abbrev pub file_level : List ℕ → ℕ → ℕ
file_level bytes p = row_level (row_at (data_chunk bytes) p)

-- a commit of the file, with its parents by the numbers that their positions were given
abbrev pub renumbered : List ℕ → Commit → Commit
renumbered numbers c = record { id = c.id; tree = c.tree; date = c.date; parents = map (λ q. slice_index numbers q) c.parents }

-- what holds of the commits of a file without fault
pub record Sound (bytes : List ℕ) : Type 0 where
  pub few : told_count bytes ≤ 65536
  pub wide : (p : ℕ) → p < told_count bytes → (length (file_commit bytes p).id ≡ 20) × (length (file_commit bytes p).tree ≡ 20)
  pub dated : (p : ℕ) → p < told_count bytes → (file_commit bytes p).date ≤ 17179869183
  pub short : (p : ℕ) → p < told_count bytes → length (file_commit bytes p).parents ≤ 64
  pub held : (p j : ℕ) → p < told_count bytes → j < length (file_commit bytes p).parents → slice_index (file_commit bytes p).parents j < told_count bytes
  pub rising : (i j : ℕ) → i < j → j < told_count bytes → precedes (file_commit bytes i).id (file_commit bytes j).id ≡ true
  pub ruled : (p : ℕ) → p < told_count bytes → file_level bytes p ≡ fold (λ x q. above x (file_level bytes q)) 1 (file_commit bytes p).parents
