-- Where labels cover, a trail loses no way to the target. Assumes nothing.
use Rattle.std.proofs.Common.{◌≡◌, ℕ, ◌<◌, Bool, true, List, length, get_or, refl, subst, ⊎_elim, arith}
use Rattle.std.proofs.lemmas.Bool.{eq-eqb, eqb-true, or_left, or_right, or_cases}
use Rattle.history.specs.Counting.{Tells}
use Rattle.history.specs.History.{Commit, Parent, Chain, Reaches}
use Rattle.history.specs.History.Chain.{here, onward}
use Rattle.history.proofs.Chains.{chain_falls}
use Rattle.containment.specs.Settling.{Keeps}
use Rattle.containment.specs.Trails.{opens, Covers, Trail}
use Rattle.containment.specs.Trails.Trail.{starts, goes}

module _ {L : Type 0} (allows : L → L → Bool) (d : L) (h : List Commit) (ls : List L)
    (transitive : (x y z : L) → allows x y ≡ true → allows y z ≡ true → allows x z ≡ true) (covers : Covers allows d h ls)
    (falling : (a p : ℕ) → Parent h a p → p < a) (t : ℕ) where
  abbrev passes : ℕ → Bool
  passes = opens allows d ls t

  chain_opens : (a k : ℕ) → Chain h a t k → passes a ≡ true
  chain_opens a k here = or_left _ _ (eq-eqb t t refl)
  chain_opens a k (onward {p = p} {k = j} q c) =
      let first = covers a p q in
      or_right _ _
      (⊎_elim
      (λ e. subst (λ x. allows (get_or ls a d) (get_or ls x d) ≡ true) (eqb-true p t e) first)
      (λ w. transitive _ _ _ first w)
      (or_cases _ _ (chain_opens p j c)))

  -- a tip that reaches the target is on the trail, and so is each parent that does
  pub tip_trails : (tips : List ℕ) (i : ℕ) → i < length tips → Reaches h (get_or tips i 0) t → Trail h passes t tips (get_or tips i 0)
  tip_trails tips i lt r = starts lt refl (chain_opens _ r.0 r.1) (chain_falls h falling _ t r.0 r.1)

  pub trail_keeps : (tips marks : List ℕ) → ((k : ℕ) → Tells (get_or marks k 0) (Trail h passes t tips k)) → Keeps h t marks
  trail_keeps tips marks tells a p on q r =
      let at : Trail h passes t tips a = ⊎_elim (λ u. u.1) (λ u. absurd (omega (arith, u.0))) (tells a) in
      let next : Trail h passes t tips p = goes at q (chain_opens p r.0 r.1) (chain_falls h falling p t r.0 r.1) in
      ⊎_elim (λ u. u.0) (λ u. absurd (u.1 next)) (tells p)
