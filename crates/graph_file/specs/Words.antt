-- Big-endian words. Assumes nothing.
use Rattle.std.specs.Prelude.{ℕ, ◌/◌, ◌%◌, List, [], ◌∷◌, ◌++◌}

-- 4 bytes
abbrev pub word : ℕ → List ℕ
word x = x / 16777216 % 256 ∷ (x / 65536 % 256 ∷ (x / 256 % 256 ∷ (x % 256 ∷ [])))

-- 8 bytes
abbrev pub long_word : ℕ → List ℕ
long_word x = word (x / 4294967296) ++ word (x % 4294967296)
