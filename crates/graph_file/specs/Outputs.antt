-- What putting bytes into a buffer does to the place of the next. Assumes nothing.
use Rattle.std.specs.Prelude.{◌≡◌, ℕ, ◌+◌, ◌≤◌, List, length}
use Rattle.graph_file.specs.declared.output.Output.{Output}
use Rattle.graph_file.specs.Placing.{placed}

-- there is room for so many bytes
abbrev pub Room : Output → ℕ → Type 0
Room o n = o.at + n ≤ length o.bytes.now

-- so many bytes further on in the same buffer
abbrev pub Moved : Output → Output → ℕ → Type 0
Moved o p n = (p.bytes.ghost_name ≡ o.bytes.ghost_name) × (length p.bytes.now ≡ length o.bytes.now) × (p.at ≡ o.at + n)

-- the bytes stand at the place, and nothing else has changed
abbrev pub Puts : Output → Output → List ℕ → Type 0
Puts o p bytes = p.bytes.now ≡ placed o.bytes.now o.at bytes
