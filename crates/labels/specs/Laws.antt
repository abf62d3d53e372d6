-- The laws of a label kind, as one fact about how its labels grow and what they allow. Assumes nothing.
use Rattle.std.specs.Prelude.{◌≡◌, Bool, true}

pub record Laws {L : Type 0} (grown : L → L → L) (allows : L → L → Bool) : Type 0 where
  pub transitive : (x y z : L) → allows x y ≡ true → allows y z ≡ true → allows x z ≡ true
  pub over : (x p : L) → allows (grown x p) p ≡ true
  pub kept : (x p q : L) → allows x q ≡ true → allows (grown x p) q ≡ true
