-- Layouts that fit the words of a file. Assumes nothing.
use Rattle.std.proofs.Common.{◌≡◌, ℕ, ◌<◌, ◌≤◌, ◌⊎◌, [], length, get_or}
use Rattle.graph_file.specs.Layout.{Row, Layout}
use Rattle.graph_file.proofs.DataRows.{blank_row}

-- the numbers of a row fit words
pub record Fits (r : Row) : Type 0 where
  pub first : r.first < 4294967296
  pub second : r.second < 4294967296
  pub generation : r.generation < 4294967296
  pub low : r.low < 4294967296

pub record Plain (l : Layout) : Type 0 where
  pub counted : length l.rows ≡ length l.ids
  pub few : length l.ids ≤ 65536
  pub edged : (length l.edges ≡ 0) ⊎ ((2 ≤ length l.edges) × (length l.edges ≤ 262144))
  pub ids_wide : (i : ℕ) → i < length l.ids → length (get_or l.ids i []) ≡ 20
  pub trees_wide : (i : ℕ) → i < length l.rows → length (get_or l.rows i blank_row).tree ≡ 20
  pub words : (i : ℕ) → i < length l.rows → Fits (get_or l.rows i blank_row)
  pub edge_words : (i : ℕ) → i < length l.edges → get_or l.edges i 0 < 4294967296
