-- The two formulas of a stepped number. Assumes nothing.
use Rattle.std.specs.Prelude.{ℕ, ◌+◌, min, max, Bool, ◌||◌, nat_le, nat_lt}

-- x, grown by a parent's p: above p, unless that would pass the top
abbrev pub stepped : ℕ → ℕ → ℕ → ℕ
stepped top x p = max x (min (p + 1) top)

-- x lies above y, or so high that it tells nothing
abbrev pub beyond : ℕ → ℕ → ℕ → Bool
beyond top x y = nat_lt y x || nat_le top x
