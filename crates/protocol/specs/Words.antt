-- What the words of a request stand for.
use Rattle.std.specs.Prelude.{◌≡◌, ℕ, ◌+◌, ◌*◌, ◌<◌, List, ◌∷◌, ◌++◌, length, codes, slice_index}
use Rattle.std.specs.Char.{digit_value}
use Rattle.protocol.specs.declared.base_kind.BaseKind.{BaseKind}
use Rattle.protocol.specs.declared.base_kind.BaseKind.TheVariants.{Blank, Level, ByteLevel, CorrectedDate, Interval}
use Rattle.protocol.specs.declared.kind.Kind.{Kind}
use Rattle.protocol.specs.declared.kind.Kind.TheVariants.{One, Two}

-- the word of a label kind
abbrev pub kind_word : BaseKind → List ℕ
kind_word Blank = codes "blank"
kind_word Level = codes "level"
kind_word ByteLevel = codes "byte-level"
kind_word CorrectedDate = codes "corrected-date"
kind_word Interval = codes "interval"

-- the text of one kind, or of two with a + between their words
abbrev pub kind_text : Kind → List ℕ
kind_text (One k) = kind_word k
kind_text (Two a b) = kind_word a ++ 43 ∷ kind_word b

-- 40 hex digits, in either case
abbrev pub Hex : List ℕ → Type 0
Hex text = (length text ≡ 40) × ((i : ℕ) → i < 40 → digit_value (slice_index text i) < 16)

-- 40 hex digits, and the bytes that they say, two digits a byte
abbrev pub Spells : List ℕ → List ℕ → Type 0
Spells text bytes =
    Hex text
    × ((k : ℕ) → k < 20 → slice_index bytes k ≡ 16 * digit_value (slice_index text (2 * k)) + digit_value (slice_index text (2 * k + 1)))
