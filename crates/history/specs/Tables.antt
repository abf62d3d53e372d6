-- What the tables stand for. Assumes nothing.
use Rattle.std.specs.Prelude.{◌≡◌, ℕ, ◌+◌, ◌<◌, ◌≤◌, true, List, [], map, take, slice_index, slice_index_or}
use Rattle.std.specs.List.{between}
use Rattle.history.specs.declared.row.CommitRow.{CommitRow}
use Rattle.history.specs.declared.object_id.ObjectId.{ObjectId}
use Rattle.history.specs.History.{Commit}
use Rattle.history.specs.Ids.{precedes}

abbrev pub no_id : ObjectId
no_id = record { bytes = [] }

abbrev pub no_row : CommitRow
no_row = record { id = no_id; tree = no_id; date = 0; level = 0; corrected = 0; from = 0; size = 0 }

abbrev pub row_of : List CommitRow → ℕ → CommitRow
row_of rows k = slice_index_or rows k no_row

-- each row's parents lie within the used part of the table of parents
abbrev pub Inside : List CommitRow → ℕ → ℕ → Type 0
Inside rows count used = (k : ℕ) → k < count → (row_of rows k).from + (row_of rows k).size ≤ used

-- each parent's number is lower than its child's
abbrev pub Earlier : List CommitRow → List ℕ → ℕ → Type 0
Earlier rows parents count =
    (k j : ℕ) → k < count → j < (row_of rows k).size → slice_index parents ((row_of rows k).from + j) < k

-- no level or corrected date can pass its number type
abbrev pub Bounded : List CommitRow → ℕ → Type 0
Bounded rows count = (k : ℕ) → k < count → ((row_of rows k).level ≤ k + 1) × ((row_of rows k).corrected ≤ 17179869183 + k)

-- the order by id holds numbers of commits
abbrev pub Within : List ℕ → ℕ → Type 0
Within order count = (i : ℕ) → i < count → slice_index order i < count

-- the order by id rises
abbrev pub Rising : List CommitRow → List ℕ → ℕ → Type 0
Rising rows order count =
    (i j : ℕ) → i < j → j < count → precedes (row_of rows (slice_index order i)).id.bytes (row_of rows (slice_index order j)).id.bytes ≡ true

-- the order by id misses no commit
abbrev pub Complete : List ℕ → ℕ → Type 0
Complete order count = (a : ℕ) → a < count → (i : ℕ) × (i < count) × (slice_index order i ≡ a)

abbrev pub commit : List ℕ → CommitRow → Commit
commit parents r =
    record { id = r.id.bytes; tree = r.tree.bytes; date = r.date; parents = between r.from (r.from + r.size) parents }

abbrev pub commits : List CommitRow → List ℕ → ℕ → List Commit
commits rows parents count = map (commit parents) (take count rows)
