-- The words by which a file names the parents of a commit, given by their file positions. Assumes nothing.
use Rattle.std.specs.Prelude.{ℕ, ◌+◌, cond, List, [], ◌∷◌, length, nat_lt}

-- stands in the place of a parent that there is not: 0x70000000
abbrev pub no_parent : ℕ
no_parent = 1879048192

-- the highest bit of a word: marks the last word of a list in EDGE, and a second parent word that points into EDGE
abbrev pub mark : ℕ
mark = 2147483648

-- the words of a list in EDGE, the last marked
abbrev pub closed_words : List ℕ → List ℕ
closed_words [] = []
closed_words (p ∷ []) = (mark + p) ∷ []
closed_words (p ∷ (q ∷ ps)) = p ∷ closed_words (q ∷ ps)

-- the words of EDGE for a commit: its second to last parents, where there are more than two
abbrev pub edge_words : List ℕ → List ℕ
edge_words [] = []
edge_words (p ∷ ps) = cond (nat_lt 1 (length ps)) (closed_words ps) []

-- the two parent words; with more than two parents the second points to the words of EDGE, which begin at `start`
abbrev pub first_parent_word : List ℕ → ℕ
first_parent_word [] = no_parent
first_parent_word (p ∷ ps) = p

abbrev pub second_parent_word : ℕ → List ℕ → ℕ
second_parent_word start [] = no_parent
second_parent_word start (p ∷ []) = no_parent
second_parent_word start (p ∷ (q ∷ [])) = q
second_parent_word start (p ∷ (q ∷ (r ∷ ps))) = mark + start
