-- A commit-graph file of version 1 without its closing checksum: what its chunks hold, and its bytes. Assumes nothing.
use Rattle.std.specs.Prelude.{ℕ, ◌+◌, ◌*◌, Bool, true, false, cond, List, [], ◌∷◌, ◌++◌, length, codes, nat_le, slice_index}
use Rattle.std.specs.List.{range_with_len, flat_map}
use Rattle.graph_file.specs.Words.{word, long_word}

-- a row of CDAT: the tree's id, two parent words, level times 4 plus the date's two highest bits, the date's low 32 bits
pub record Row : Type 0 where
  pub tree : List ℕ
  pub first : ℕ
  pub second : ℕ
  pub generation : ℕ
  pub low : ℕ

-- the ids in file order, their rows, and the words of EDGE
pub record Layout : Type 0 where
  pub ids : List (List ℕ)
  pub rows : List Row
  pub edges : List ℕ

abbrev pub row_bytes : Row → List ℕ
row_bytes r = r.tree ++ (word r.first ++ (word r.second ++ (word r.generation ++ word r.low)))

-- how many ids have a first byte of at most i
abbrev pub fan_out : List (List ℕ) → ℕ → ℕ
fan_out [] i = 0
fan_out (id ∷ ids) i = cond (nat_le (slice_index id 0) i) 1 0 + fan_out ids i

-- OIDF
abbrev pub fan_out_bytes : List (List ℕ) → List ℕ
fan_out_bytes ids = flat_map (λ i. word (fan_out ids i)) (range_with_len 0 256)

-- OIDL
abbrev pub id_bytes : List (List ℕ) → List ℕ
id_bytes ids = flat_map (λ id. id) ids

-- CDAT
abbrev pub data_bytes : List Row → List ℕ
data_bytes rows = flat_map row_bytes rows

-- EDGE
abbrev pub edge_bytes : List ℕ → List ℕ
edge_bytes edges = flat_map word edges

-- a file has a fourth chunk when it has extra edges
abbrev pub has_edges : List ℕ → Bool
has_edges [] = false
has_edges (e ∷ es) = true

abbrev pub chunks : List ℕ → ℕ
chunks edges = cond (has_edges edges) 4 3

-- where the first chunk begins: behind the header and a row of the table for each chunk and one for the end
abbrev pub first_place : List ℕ → ℕ
first_place edges = 8 + 12 * (chunks edges + 1)

abbrev pub file_length : Layout → ℕ
file_length l = first_place l.edges + 1024 + 20 * length l.ids + 36 * length l.rows + 4 * length l.edges

-- "CGPH", version 1, ids of 20 bytes, the number of chunks, no base files
abbrev pub header : List ℕ → List ℕ
header edges = codes "CGPH" ++ (1 ∷ (1 ∷ (chunks edges ∷ (0 ∷ []))))

-- the table of chunks: names and places, the last with name 0 and the file's length
abbrev pub contents : Layout → List ℕ
contents l =
    let at = first_place l.edges in
    codes "OIDF" ++ (long_word at
    ++ (codes "OIDL" ++ (long_word (at + 1024)
    ++ (codes "CDAT" ++ (long_word (at + 1024 + 20 * length l.ids)
    ++ (cond (has_edges l.edges) (codes "EDGE" ++ long_word (at + 1024 + 20 * length l.ids + 36 * length l.rows)) []
    ++ (word 0 ++ long_word (file_length l))))))))

abbrev pub file_bytes : Layout → List ℕ
file_bytes l =
    header l.edges ++ (contents l ++ (fan_out_bytes l.ids ++ (id_bytes l.ids ++ (data_bytes l.rows ++ edge_bytes l.edges))))
