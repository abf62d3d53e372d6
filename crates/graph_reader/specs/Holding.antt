-- What the parts of a file are. Assumes nothing.
use Rattle.std.specs.Prelude.{◌≡◌, ℕ, List, take}
use Rattle.graph_reader.specs.declared.parts.Parts.{Parts}
use Rattle.graph_reader.specs.declared.parent_list.ParentList.{ParentList}
use Rattle.graph_reader.specs.Bytes.{ids_begin, data_begin, data_end, told_count, told_edges, id_chunk, data_chunk, edge_chunk}

abbrev pub listed : ParentList → List ℕ
listed l = take l.size l.positions

-- the parts are those of these bytes
pub record Holds (bytes : List ℕ) (f : Parts) : Type 0 where
  pub count : f.count ≡ told_count bytes
  pub entries : f.entries ≡ told_edges bytes
  pub ids : f.ids.bytes.now ≡ id_chunk bytes
  pub rows : f.rows.bytes.now ≡ data_chunk bytes
  pub edges : f.edges.bytes.now ≡ edge_chunk bytes
  pub ids_place : f.ids.place ≡ ids_begin bytes
  pub rows_place : f.rows.place ≡ data_begin bytes
  pub edges_place : f.edges.place ≡ data_end bytes
