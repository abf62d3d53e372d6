-- The file of a history. Assumes nothing.
use Rattle.std.specs.Prelude.{◌≡◌, ℕ, suc, ◌+◌, ◌-◌, ◌*◌, ◌/◌, ◌%◌, ◌<◌, true, cond, List, [], ◌∷◌, map, length, ◌==◌, nat_lt, slice_index}
use Rattle.std.specs.List.{flat_map}
use Rattle.history.specs.Generations.{levels_of}
use Rattle.history.specs.History.{Commit, commit_of, parents_of}
use Rattle.history.specs.Ids.{precedes}
use Rattle.graph_file.specs.Layout.{Row, Layout}

-- the file's order: each commit's number once, in rising order of their ids
pub record FileOrder (h : List Commit) (order : List ℕ) : Type 0 where
  pub long : length order ≡ length h
  pub held : (i : ℕ) → i < length order → slice_index order i < length h
  pub rising : (i j : ℕ) → i < j → j < length order → precedes (commit_of h (slice_index order i)).id (commit_of h (slice_index order j)).id ≡ true
  pub complete : (a : ℕ) → a < length h → (i : ℕ) × (i < length order) × (slice_index order i ≡ a)

-- the file position of a commit: its place in the order
abbrev pub position : List ℕ → ℕ → ℕ
position [] n = 0
position (m ∷ order) n = cond (m == n) 0 (suc (position order n))

-- the file positions of commits
abbrev pub positions : List ℕ → List ℕ → List ℕ
positions order ns = map (position order) ns

-- how many words of EDGE a list of parents takes: from the second on, where there are more than two
abbrev pub extra : List ℕ → ℕ
extra ps = cond (nat_lt 2 (length ps)) (length ps - 1) 0

-- the second to last parents, the last with its highest bit set
abbrev pub closed : List ℕ → List ℕ → List ℕ
closed order [] = []
closed order (p ∷ []) = (2147483648 + position order p) ∷ []
closed order (p ∷ (q ∷ ps)) = position order p ∷ closed order (q ∷ ps)

abbrev pub edges_from : List ℕ → List ℕ → List ℕ
edges_from order [] = []
edges_from order (p ∷ ps) = cond (nat_lt 1 (length ps)) (closed order ps) []

-- the two parent words: 0x70000000 for none; with more than two parents the second is 0x80000000 plus an index into EDGE
abbrev pub first_word : List ℕ → List ℕ → ℕ
first_word order [] = 1879048192
first_word order (p ∷ ps) = position order p

abbrev pub second_word : List ℕ → ℕ → List ℕ → ℕ
second_word order start [] = 1879048192
second_word order start (p ∷ []) = 1879048192
second_word order start (p ∷ (q ∷ [])) = position order q
second_word order start (p ∷ (q ∷ (r ∷ ps))) = 2147483648 + start

module _ (h : List Commit) (order : List ℕ) where
  -- the row of commit n, whose extra edges begin at `start`
  abbrev pub row_of_commit : ℕ → ℕ → Row
  row_of_commit n start =
      record {
        tree = (commit_of h n).tree;
        first = first_word order (parents_of h n);
        second = second_word order start (parents_of h n);
        generation = slice_index (levels_of h) n * 4 + (commit_of h n).date / 4294967296;
        low = (commit_of h n).date % 4294967296;
      }

  abbrev pub rows_from : ℕ → List ℕ → List Row
  rows_from start [] = []
  rows_from start (n ∷ ns) = row_of_commit n start ∷ rows_from (start + extra (parents_of h n)) ns

  abbrev pub layout_of : Layout
  layout_of =
      record {
        ids = map (λ n. (commit_of h n).id) order;
        rows = rows_from 0 order;
        edges = flat_map (λ n. edges_from order (parents_of h n)) order;
      }
