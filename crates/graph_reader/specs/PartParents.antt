-- The parents that the parts of a file name. Assumes nothing.
use Rattle.std.specs.Prelude.{ℕ, List, ◌++◌, drop, Ok, Err, Result}
use Rattle.graph_file.specs.Layout.{Row}
use Rattle.graph_reader.specs.declared.parts.Parts.{Parts}
use Rattle.graph_reader.specs.declared.parent_list.ParentList.{ParentList}
use Rattle.history.specs.declared.load_fault.ChunkFault.{ChunkFault}
use Rattle.history.specs.declared.load_fault.ChunkFault.TheVariants.{WrongParent}
use Rattle.graph_reader.specs.Bytes.{row_at, rows_in, words_in}
use Rattle.graph_reader.specs.Holding.{listed}
use Rattle.graph_reader.specs.Parents.{listed_from, others_of, parents_by, parents_from}

-- the positions of a list that was read
abbrev pub as_read : Result ParentList ChunkFault → Result (List ℕ) ChunkFault
as_read (Ok l) = Ok (listed l)
as_read (Err fault) = Err fault

-- the place of a wrong word, as a fault
abbrev pub as_fault : {X : Type 0} → Result X ℕ → Result X ChunkFault
as_fault (Ok x) = Ok x
as_fault (Err place) = Err (WrongParent place)

-- what was read, behind what came before
abbrev pub behind : List ℕ → Result (List ℕ) ℕ → Result (List ℕ) ℕ
behind xs (Ok ys) = Ok (xs ++ ys)
behind xs (Err place) = Err place

module _ (f : Parts) where
  abbrev pub part_row : ℕ → Row
  part_row p = row_at f.rows.bytes.now p

  abbrev pub part_rows : List Row
  part_rows = rows_in f.rows.bytes.now f.count

  abbrev pub part_words : List ℕ
  part_words = words_in f.edges.bytes.now f.entries

  -- the list that begins with the word of index `next`
  abbrev pub list_at : ℕ → Result (List ℕ) ℕ
  list_at next = listed_from f.count f.rows.place f.edges.place next 0 (drop next part_words)

  -- the parents of the commit at position p, where `next` words of EDGE came before its own
  abbrev pub others_at : ℕ → ℕ → Result (List ℕ) ℕ
  others_at p next = others_of f.count f.rows.place f.edges.place p next (part_row p).second (drop next part_words)

  abbrev pub parents_at : ℕ → ℕ → Result (List ℕ) ℕ
  parents_at p next =
      parents_by f.count f.rows.place f.edges.place p next (part_row p).first (part_row p).second (drop next part_words)

  -- those of all commits
  abbrev pub parents_of_all : Result (List (List ℕ)) ℕ
  parents_of_all = parents_from f.count f.rows.place f.edges.place 0 0 part_rows part_words
