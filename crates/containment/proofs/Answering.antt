-- From the walk and the passes to the answer. Assumes nothing.
use Rattle.std.proofs.Common.{◌≡◌, ℕ, ◌<◌, ◌≤◌, Bool, true, List, length, get_or, sym, subst₂, ⊎_elim, arith}
use Rattle.history.specs.Counting.{Tally, Tells}
use Rattle.history.specs.History.{Commit, Parent, Reaches}
use Rattle.containment.specs.Settling.{Settled, told}
use Rattle.containment.specs.Trails.{opens, Covers, Trail}
use Rattle.containment.proofs.Counts.{ones, tally_ones}
use Rattle.containment.proofs.Reach.{tip_trails, trail_keeps}
use Rattle.containment.proofs.Settles.{settled_tells}

module _ {L : Type 0} (allows : L → L → Bool) (d : L) (h : List Commit) (ls : List L) (falling : (a p : ℕ) → Parent h a p → p < a) (t : ℕ) (tips marks : List ℕ) where
  abbrev OnTrail : ℕ → Type 0
  OnTrail = Trail h (opens allows d ls t) t tips

  module _ (tells : (k : ℕ) → Tells (get_or marks k 0) (OnTrail k)) where
    bits : (k : ℕ) → get_or marks k 0 ≤ 1
    bits k = ⊎_elim (λ u. omega (arith, u.0)) (λ u. omega (arith, u.0)) (tells k)

    pub trail_counted : (size visits : ℕ) → length marks ≡ size → visits ≡ ones marks → Tally OnTrail size 0 visits
    trail_counted size visits e v = subst₂ (λ n w. Tally OnTrail n 0 w) e (sym v) (tally_ones OnTrail marks tells)

    module _ (m : List ℕ) (long : length m ≡ length marks) (s : Settled h t (length marks) marks m) where
      pub tips_told : ((x y z : L) → allows x y ≡ true → allows y z ≡ true → allows x z ≡ true) → Covers allows d h ls →
          (i byte : ℕ) → i < length tips → get_or tips i 0 < length marks → byte ≡ told (get_or m (get_or tips i 0) 0) → Tells byte (Reaches h (get_or tips i 0) t)
      tips_told transitive covers i byte lt low is =
          let a = get_or tips i 0 in
          settled_tells h t falling marks bits m long s a byte low (trail_keeps allows d h ls transitive covers falling t tips marks tells)
          (λ r. ⊎_elim (λ u. u.0) (λ u. absurd (u.1 (tip_trails allows d h ls transitive covers falling t tips i lt r))) (tells a))
          is
