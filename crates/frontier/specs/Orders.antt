-- Orders in which any two different elements have a first and a second. Assumes nothing.
use Rattle.std.specs.Prelude.{◌≡◌, ℕ, Bool, true, false, ◌&&◌, ◌||◌, ◌==◌, nat_lt}

pub record Order {X : Type 0} (before : X → X → Bool) : Type 0 where
  pub transitive : (x y z : X) → before x y ≡ true → before y z ≡ true → before x z ≡ true
  pub oneway : (x y : X) → before x y ≡ true → before y x ≡ false
  pub total : (x y : X) → before x y ≡ false → before y x ≡ false → x ≡ y

-- the pair a, b is less than c, d: by the first parts, and where these are equal by the second
abbrev pub lexical : ℕ → ℕ → ℕ → ℕ → Bool
lexical a b c d = nat_lt a c || (a == c && nat_lt b d)
