-- What the bytes of a file say: words, and the layout that its chunks hold. Assumes nothing.
use Rattle.std.specs.Prelude.{ℕ, ◌+◌, ◌-◌, ◌*◌, ◌/◌, cond, List, map, take, drop, ◌==◌, slice_index}
use Rattle.std.specs.List.{between, range_with_len}
use Rattle.graph_file.specs.Layout.{Row, Layout}

-- the number in the 4, or 8, bytes at a place
abbrev pub word_at : List ℕ → ℕ → ℕ
word_at bytes at =
    slice_index bytes at * 16777216 + slice_index bytes (at + 1) * 65536 + slice_index bytes (at + 2) * 256 + slice_index bytes (at + 3)

abbrev pub long_at : List ℕ → ℕ → ℕ
long_at bytes at = word_at bytes at * 4294967296 + word_at bytes (at + 4)

-- the id at a file position, of a chunk OIDL
abbrev pub id_at : List ℕ → ℕ → List ℕ
id_at chunk p = take 20 (drop (20 * p) chunk)

abbrev pub ids_in : List ℕ → ℕ → List (List ℕ)
ids_in chunk count = map (id_at chunk) (range_with_len 0 count)

-- the row at a file position, of a chunk CDAT
abbrev pub row_at : List ℕ → ℕ → Row
row_at chunk p =
    record {
      tree = take 20 (drop (36 * p) chunk);
      first = word_at chunk (36 * p + 20);
      second = word_at chunk (36 * p + 24);
      generation = word_at chunk (36 * p + 28);
      low = word_at chunk (36 * p + 32);
    }

abbrev pub rows_in : List ℕ → ℕ → List Row
rows_in chunk count = map (row_at chunk) (range_with_len 0 count)

-- the words of a chunk EDGE
abbrev pub word_in : List ℕ → ℕ → ℕ
word_in chunk i = word_at chunk (4 * i)

abbrev pub words_in : List ℕ → ℕ → List ℕ
words_in chunk count = map (word_in chunk) (range_with_len 0 count)

module _ (bytes : List ℕ) where
  -- where the first chunk begins, and where the ids do
  abbrev pub chunks_begin : ℕ
  chunks_begin = 8 + 12 * (slice_index bytes 6 + 1)

  abbrev pub ids_begin : ℕ
  ids_begin = chunks_begin + 1024

  -- how many commits the place of CDAT tells of
  abbrev pub told_count : ℕ
  told_count = (long_at bytes 36 - ids_begin) / 20

  abbrev pub data_begin : ℕ
  data_begin = ids_begin + 20 * told_count

  abbrev pub data_end : ℕ
  data_end = ids_begin + 56 * told_count

  -- how many extra edges the file's end tells of, in a file with four chunks
  abbrev pub told_edges : ℕ
  told_edges = cond (slice_index bytes 6 == 3) 0 ((long_at bytes 60 - data_end) / 4)

  -- the chunks
  abbrev pub fan_out_chunk : List ℕ
  fan_out_chunk = between chunks_begin ids_begin bytes

  abbrev pub id_chunk : List ℕ
  id_chunk = between ids_begin data_begin bytes

  abbrev pub data_chunk : List ℕ
  data_chunk = between data_begin data_end bytes

  abbrev pub edge_chunk : List ℕ
  edge_chunk = between data_end (data_end + 4 * told_edges) bytes

  -- what they hold
  abbrev pub layout_in : Layout
  layout_in =
      record {
        ids = ids_in id_chunk told_count;
        rows = rows_in data_chunk told_count;
        edges = words_in edge_chunk told_edges;
      }
