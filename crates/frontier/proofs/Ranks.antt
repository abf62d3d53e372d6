-- What follows in an order. Assumes nothing.
use Rattle.std.proofs.Common.{◌≡◌, Bool, true, false, ◌⊎◌, sym, subst, inl, inr, ⊎_elim}
use Rattle.std.proofs.lemmas.Bool.{cases_Bool}
use Rattle.frontier.specs.Orders.{Order}

module _ {X : Type 0} (before : X → X → Bool) (o : Order before) where
  pub itself : (x : X) → before x x ≡ false
  itself x = ⊎_elim (λ e. o.oneway x x e) (λ e. e) (cases_Bool (before x x))

  -- what does not come before x is x or comes after it
  pub same_or_after : (x y : X) → before y x ≡ false → (y ≡ x) ⊎ (before x y ≡ true)
  same_or_after x y f = ⊎_elim inr (λ e. inl (o.total y x f e)) (cases_Bool (before x y))

  pub chain : (x y z : X) → before x y ≡ false → before y z ≡ false → before x z ≡ false
  chain x y z f g =
      ⊎_elim
      (λ e. subst (λ w. before w z ≡ false) (sym e) g)
      (λ yx.
      ⊎_elim
      (λ e. subst (λ w. before x w ≡ false) e f)
      (λ zy. o.oneway z x (o.transitive z y x zy yx))
      (same_or_after z y g))
      (same_or_after y x f)
