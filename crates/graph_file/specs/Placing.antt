-- What the steps of writing say: bytes put into a buffer, and the tables that a file is written from. Assumes nothing.
use Rattle.std.specs.Prelude.{◌≡◌, ℕ, ◌+◌, ◌*◌, ◌<◌, ◌≤◌, cond, List, [], ◌∷◌, map, length, take, nat_lt, slice_index, slice_index_or}
use Rattle.std.specs.List.{All}
use Rattle.std.proofs.Math.Seq.{paste}
use Rattle.labels.specs.declared.kind.LabelKind.{Ghosts}
use Rattle.history.specs.declared.graph.CommitGraph.{CommitGraph}
use Rattle.history.specs.Generations.{levels_of}
use Rattle.history.specs.Graph.{history}
use Rattle.history.specs.History.{Commit, commit_of, parents_of}
use Rattle.history.specs.Tables.{Rising}
use Rattle.graph_file.specs.Encoding.{FileOrder, extra}
use Rattle.graph_file.specs.Layout.{Layout}

-- the buffer with the bytes put over what stood from `at` on
unfoldable pub placed : List ℕ → ℕ → List ℕ → List ℕ
placed buffer at bytes = paste buffer at bytes (length bytes)

-- the ids in the file's order
abbrev pub ids_of : List Commit → List ℕ → List (List ℕ)
ids_of h order = map (λ n. (commit_of h n).id) order

-- the first byte of the id at a place
abbrev pub first_at : List (List ℕ) → ℕ → ℕ
first_at ids i = slice_index (slice_index_or ids i []) 0

-- the first n ids begin with the byte or a lower one
abbrev pub Low : List (List ℕ) → ℕ → ℕ → Type 0
Low ids n byte = (i : ℕ) → i < n → first_at ids i ≤ byte

-- how many words of EDGE the commits take
abbrev pub extras : List Commit → List ℕ → ℕ
extras h [] = 0
extras h (n ∷ ns) = extra (parents_of h n) + extras h ns

-- the parts' sizes, by the number of commits and of words in EDGE
abbrev pub chunk_count : ℕ → ℕ
chunk_count edges = cond (nat_lt 0 edges) 4 3

abbrev pub front_size : ℕ → ℕ
front_size edges = 8 + 12 * (chunk_count edges + 1)

abbrev pub file_size : ℕ → ℕ → ℕ
file_size commits edges = front_size edges + 1024 + 20 * commits + 36 * commits + 4 * edges

-- a layout of so many commits and words in EDGE
pub record Sized (l : Layout) (commits edges : ℕ) : Type 0 where
  pub ids : length l.ids ≡ commits
  pub rows : length l.rows ≡ commits
  pub words : length l.edges ≡ edges

module _ {K L : Type 0} {kind : Ghosts K L} (g : CommitGraph K L kind) where
  -- the commits' numbers in rising order of their ids
  abbrev pub listed : List ℕ
  listed = take g.count g.order.now

  -- the tables hold the history, in the file's order
  pub record Filed (h : List Commit) (order : List ℕ) : Type 0 where
    pub commits : history g ≡ h
    pub sorted : listed ≡ order
    pub levels : map (λ r. r.level) (take g.count g.rows.now) ≡ levels_of h
    pub rising : Rising g.rows.now g.order.now g.count
    pub ordered : FileOrder h order
    pub wide : (a : ℕ) → a < length h → (length (commit_of h a).id ≡ 20) × (length (commit_of h a).tree ≡ 20)

  -- what holds of each history and order that the tables hold
  abbrev pub WhenFiled : (List Commit → List ℕ → Type 0) → Type 0
  WhenFiled P = (h : List Commit) (order : List ℕ) → Filed h order → P h order

  -- each is the number of a commit
  abbrev pub Held : List ℕ → Type 0
  Held ns = All (λ n. n < g.count) ns
