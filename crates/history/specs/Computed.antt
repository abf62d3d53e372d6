-- What the tables hold of a commit beside what was given of it. Assumes nothing.
use Rattle.std.specs.Prelude.{◌≡◌, ℕ, List, map, take}
use Rattle.history.specs.declared.row.CommitRow.{CommitRow}
use Rattle.history.specs.History.{Commit, parent_total}
use Rattle.history.specs.Labels.{labels_of}
use Rattle.history.specs.Generations.{levels_of, corrected_of}

-- labels, levels and corrected dates are those that the rules make of the commits, and the used part of the table of parents is as long as their lists
pub record Computed {L : Type 0} (start : ℕ → ℕ → L) (grown : L → L → L) (h : List Commit) (rows : List CommitRow) (ls : List L) (count used : ℕ) : Type 0 where
  pub labels : take count ls ≡ labels_of start grown h
  pub levels : map (λ r. r.level) (take count rows) ≡ levels_of h
  pub corrected : map (λ r. r.corrected) (take count rows) ≡ corrected_of h
  pub total : used ≡ parent_total h
