-- How many numbers have a property, and a byte that tells whether something holds. Assumes nothing.
use Rattle.std.specs.Prelude.{◌≡◌, ℕ, suc, ◌⊎◌}

-- v of the numbers from n up to m, m not among them, have P
pub data Tally (P : ℕ → Type 0) (m : ℕ) : ℕ → ℕ → Type 0 where
  ended : Tally P m m 0
  with_it : {n v : ℕ} → P n → Tally P m (suc n) v → Tally P m n (suc v)
  without : {n v : ℕ} → (P n → ⊥) → Tally P m (suc n) v → Tally P m n v

-- 1 where P holds, and 0 where it does not
abbrev pub Tells : ℕ → Type 0 → Type 0
Tells byte P = ((byte ≡ 1) × P) ⊎ ((byte ≡ 0) × (P → ⊥))
