-- The history that a file describes. Assumes nothing.
use Rattle.std.specs.Prelude.{◌≡◌, ℕ, ◌<◌, true, List, length, slice_index}
use Rattle.frontier.specs.Orders.{lexical}
use Rattle.graph_file.specs.Encoding.{FileOrder, layout_of}
use Rattle.graph_file.specs.Layout.{file_bytes}
use Rattle.history.specs.Generations.{levels_of}
use Rattle.history.specs.History.{Commit, Wellformed}

-- the file is that of the history, whose commits are numbered in rising level, and of equal levels in rising file position; `order` has the number
-- of the commit at each file position
pub record Described (file : List ℕ) (h : List Commit) (order : List ℕ) : Type 0 where
  pub wellformed : Wellformed h
  pub ordered : FileOrder h order
  pub written : file ≡ file_bytes (layout_of h order)
  pub numbered : (i j : ℕ) → i < length order → j < length order → slice_index order i < slice_index order j →
      lexical (slice_index (levels_of h) (slice_index order i)) i (slice_index (levels_of h) (slice_index order j)) j ≡ true
