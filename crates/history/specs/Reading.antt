-- What is read of a commit. Assumes nothing.
use Rattle.std.specs.Prelude.{◌≡◌, ℕ, ◌<◌, List, length}
use Rattle.history.specs.declared.row.CommitRow.{CommitRow}
use Rattle.history.specs.History.{Commit, commit_of}
use Rattle.history.specs.Generations.{Level, CorrectedDate}

-- the row holds what was given of the commit, with its level and corrected date by chains of parents
pub record Describes (h : List Commit) (n : ℕ) (r : CommitRow) : Type 0 where
  pub held : n < length h
  pub id : r.id.bytes ≡ (commit_of h n).id
  pub tree : r.tree.bytes ≡ (commit_of h n).tree
  pub date : r.date ≡ (commit_of h n).date
  pub level : Level h n r.level
  pub corrected : CorrectedDate h n r.corrected
