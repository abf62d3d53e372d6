-- What each kind of label computes, from a commit's number and date, over plain numbers. Assumes nothing.
use Rattle.std.specs.Prelude.{ℕ, min, Bool, true, ◌&&◌, nat_le}
use Rattle.labels.specs.declared.span.Span.{Span}
use Rattle.labels.specs.Formulas.{stepped, beyond}

-- blank: one label, which rules nothing out

abbrev pub blank_start : ℕ → ℕ → Unit {0}
blank_start number date = tt

abbrev pub blank_grown : Unit {0} → Unit {0} → Unit {0}
blank_grown x p = tt

abbrev pub blank_allows : Unit {0} → Unit {0} → Bool
blank_allows x y = true

-- level: 1 without parents, else one more than the greatest level of the parents

abbrev pub level_top : ℕ
level_top = 1073741823

abbrev pub level_start : ℕ → ℕ → ℕ
level_start number date = 1

abbrev pub level_grown : ℕ → ℕ → ℕ
level_grown x p = stepped level_top x p

abbrev pub level_allows : ℕ → ℕ → Bool
level_allows x y = beyond level_top x y

-- byte level: the level, in a byte

abbrev pub byte_level_top : ℕ
byte_level_top = 255

abbrev pub byte_level_start : ℕ → ℕ → ℕ
byte_level_start number date = 1

abbrev pub byte_level_grown : ℕ → ℕ → ℕ
byte_level_grown x p = stepped byte_level_top x p

abbrev pub byte_level_allows : ℕ → ℕ → Bool
byte_level_allows x y = beyond byte_level_top x y

-- corrected date: the date, raised above the corrected date of each parent

abbrev pub corrected_date_top : ℕ
corrected_date_top = 9223372036854775807

abbrev pub corrected_date_start : ℕ → ℕ → ℕ
corrected_date_start number date = date

abbrev pub corrected_date_grown : ℕ → ℕ → ℕ
corrected_date_grown x p = stepped corrected_date_top x p

abbrev pub corrected_date_allows : ℕ → ℕ → Bool
corrected_date_allows x y = beyond corrected_date_top x y

-- interval: the least number among the ancestors, and a stepped number

abbrev pub interval_top : ℕ
interval_top = 4294967295

abbrev pub interval_start : ℕ → ℕ → Span
interval_start number date = record { low = number; high = number }

abbrev pub interval_grown : Span → Span → Span
interval_grown x p = record { low = min x.low p.low; high = stepped interval_top x.high p.high }

abbrev pub interval_allows : Span → Span → Bool
interval_allows x y = nat_le x.low y.low && beyond interval_top x.high y.high

-- pair: each part by its own kind, and both have to allow it

module _ {L M : Type 0} where
  abbrev pub pair_start : (ℕ → ℕ → L) → (ℕ → ℕ → M) → ℕ → ℕ → L × M
  pair_start f g number date = (f number date, g number date)

  abbrev pub pair_grown : (L → L → L) → (M → M → M) → L × M → L × M → L × M
  pair_grown f g x p = (f x.0 p.0, g x.1 p.1)

  abbrev pub pair_allows : (L → L → Bool) → (M → M → Bool) → L × M → L × M → Bool
  pair_allows f g x y = f x.0 y.0 && g x.1 y.1
