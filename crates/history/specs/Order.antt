-- The order by id: one entry more, and where an id belongs. Assumes nothing.
use Rattle.std.specs.Prelude.{◌≡◌, ℕ, ◌+◌, ◌-◌, ◌<◌, ◌≤◌, true, false, cond, List, ◌==◌, ◌≢◌, nat_lt, slice_index}
use Rattle.history.specs.declared.row.CommitRow.{CommitRow}
use Rattle.history.specs.Ids.{precedes}
use Rattle.history.specs.Tables.{row_of, Rising, Complete}

-- what stands at k once x has been put at `place`, and the entries from there on have moved up by one
abbrev pub shifted : List ℕ → ℕ → ℕ → ℕ → ℕ
shifted old place x k = cond (nat_lt k place) (slice_index old k) (cond (k == place) x (slice_index old (k - 1)))

-- of the entries of the order by id, those below `low` come before the id, and those from `high` on do not
pub record Splits (rows : List CommitRow) (order : List ℕ) (count : ℕ) (id : List ℕ) (low high : ℕ) : Type 0 where
  pub before : (i : ℕ) → i < low → precedes (row_of rows (slice_index order i)).id.bytes id ≡ true
  pub after : (i : ℕ) → high ≤ i → i < count → precedes (row_of rows (slice_index order i)).id.bytes id ≡ false

-- the number of a new commit with this id, at a place of the order by id: the order misses no commit if it missed none before, and rises if it rose
-- before and that is where the id belongs
pub record Placed (rows : List CommitRow) (order : List ℕ) (rows' : List CommitRow) (order' : List ℕ) (count : ℕ) (id : List ℕ) (place : ℕ) : Type 0 where
  pub complete : Complete order count → Complete order' (count + 1)
  pub rising : Rising rows order count → Splits rows order count id place place → ((i : ℕ) → i < count → (row_of rows (slice_index order i)).id.bytes ≢ id) → Rising rows' order' (count + 1)
