-- What the fan-out and the ids of a file are refused for: the first place whose test fails. Assumes nothing.
use Rattle.std.specs.Prelude.{ℕ, ◌+◌, ◌-◌, ◌*◌, cond, List, [], ◌∷◌, map, ◌==◌, slice_index}
use Rattle.std.specs.List.{range_with_len}
use Rattle.history.specs.Ids.{precedes}
use Rattle.graph_file.specs.Layout.{fan_out}
use Rattle.graph_reader.specs.Bytes.{word_at, id_at}
use Rattle.graph_reader.specs.Faults.{Test, test}

-- the chunk OIDF begins at `place`: each word counts the ids whose first byte is at most its index
abbrev pub fan_out_test : List ℕ → ℕ → List (List ℕ) → ℕ → Test
fan_out_test chunk place ids i = test (place + 4 * i) (word_at chunk (4 * i) == fan_out ids i)

unfoldable pub fan_out_tests : List ℕ → ℕ → List (List ℕ) → List Test
fan_out_tests chunk place ids = map (fan_out_test chunk place ids) (range_with_len 0 256)

-- the chunk OIDL begins at `place`: each id but the first is greater than the one before
abbrev pub order_test : List ℕ → ℕ → ℕ → Test
order_test chunk place p = test (place + 20 * p) (precedes (id_at chunk (p - 1)) (id_at chunk p))

abbrev pub order_tests : List ℕ → ℕ → ℕ → List Test
order_tests chunk place count = map (order_test chunk place) (range_with_len 1 (count - 1))

-- how many ids have the first byte i
abbrev pub begun_by : List (List ℕ) → ℕ → ℕ
begun_by [] i = 0
begun_by (id ∷ ids) i = cond (slice_index id 0 == i) 1 0 + begun_by ids i
