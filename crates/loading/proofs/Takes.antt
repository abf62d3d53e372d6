-- One position more that waits, and one that is taken out. Assumes nothing.
use Rattle.std.proofs.Common.{◌≡◌, ℕ, ◌+◌, ◌-◌, ◌<◌, ◌≤◌, true, ◌⊎◌, List, ◌∷◌, length, take, sum_by, sym, refl, ap, ◌∙◌, subst, inl, inr, ⊎_elim, arith}
use Rattle.std.specs.List.Sorted.{IsPermutation}
use Rattle.std.proofs.lemmas.List.Sorted.{sum_by-IsPermutation}
use Rattle.std.proofs.lemmas.Bool.{cases_eq}
use Rattle.frontier.specs.declared.elements.ByLevel.{ByLevel}
use Rattle.frontier.specs.Heaps.{Among, Queued, TakenOut}
use Rattle.frontier.proofs.Fronts.{queued_none}
use Rattle.frontier.proofs.Members.{distinct_none, among_more, among_less, distinct_more, distinct_less, taken_gone}
use Rattle.loading.specs.Waiting.{by_level, key, Waits, AllWait}

module _ (file : List ℕ) where
  pub none_wait : (queue : List ByLevel) → AllWait file 0 queue
  none_wait queue =
      record {
        waits = record { within = omega arith; queued = queued_none by_level queue; distinct = distinct_none queue; keyed = λ y w. absurd (omega (arith, w.1)) };
        each = λ p lt. absurd (omega arith);
      }

  -- the next position joins those that wait
  module _ (n : ℕ) (old new : List ByLevel) (x : ByLevel) (is : x ≡ key file n) (w : AllWait file n old) (in_new : n + 1 ≤ length new)
      (queued : Queued by_level new (n + 1)) (holds : IsPermutation (x ∷ take n old) (take (n + 1) new)) where
    in_old : n ≤ length old
    in_old = w.waits.within

    pub joined_wait : AllWait file (n + 1) new
    unfolding in_old
    joined_wait =
        record {
          waits = record {
            within = in_new;
            queued = queued;
            distinct = distinct_more x old new n (n + 1) in_old in_new holds w.waits.distinct
                (λ u. let q = w.waits.keyed x u in omega (arith, q.1, ap (λ z. z.position) (sym is ∙ q.2)));
            keyed = λ y u.
                ⊎_elim
                (λ e. (n, omega arith, e ∙ is))
                (λ v. let q = w.waits.keyed y v in (q.0, omega (arith, q.1), q.2))
                (among_less x old new n (n + 1) in_old in_new holds y u);
          };
          each = λ p lt.
              among_more x old new n (n + 1) in_old in_new holds (key file p)
              (⊎_elim (λ e. inl (ap (key file) e ∙ sym is)) (λ ne. inr (w.each p (omega arith))) (cases_eq p n));
        }

    -- what they list in all
    pub joined_sum : (f : ByLevel → ℕ) → sum_by f (take (n + 1) new) ≡ sum_by f (x ∷ take n old)
    joined_sum f = sum_by-IsPermutation f (x ∷ take n old) (take (n + 1) new) holds

  -- the first of those that wait is taken out
  module _ (n w : ℕ) (old new : List ByLevel) (x : ByLevel) (s : Waits file n w old) (long : length new ≡ length old) (t : TakenOut by_level old new w x) where
    fits : w - 1 ≤ length new
    fits = omega (arith, s.within)

    pub taken_among : Among x old w
    unfolding fits
    taken_among = among_more x new old (w - 1) w fits s.within t.holds x (inl refl)

    pub taken_key : (p : ℕ) × (p < n) × (x ≡ key file p)
    taken_key = s.keyed x taken_among

    pub others_wait : (y : ByLevel) → Among y new (w - 1) → Among y old w
    unfolding fits
    others_wait y u = among_more x new old (w - 1) w fits s.within t.holds y (inr u)

    pub still_waits : (y : ByLevel) → Among y old w → (y ≡ x) ⊎ Among y new (w - 1)
    unfolding fits
    still_waits y u = among_less x new old (w - 1) w fits s.within t.holds y u

    pub taken_waits : Waits file n (w - 1) new
    unfolding fits
    taken_waits =
        record {
          within = fits;
          queued = t.queued;
          distinct = distinct_less x new old (w - 1) w fits s.within t.holds s.distinct;
          keyed = λ y u. s.keyed y (others_wait y u);
        }

    -- what waits comes after it, or is it
    pub first_or_after : (y : ByLevel) → Among y old w → (y ≡ x) ⊎ (by_level x y ≡ true)
    first_or_after y u = subst (λ z. (z ≡ x) ⊎ (by_level x z ≡ true)) (u.2 y) (t.first u.0 y u.1)

    pub after_taken : (y : ByLevel) → Among y new (w - 1) → by_level x y ≡ true
    unfolding fits
    after_taken y u =
        ⊎_elim
        (λ e. absurd (taken_gone x new old (w - 1) w fits s.within t.holds s.distinct (subst (λ z. Among z new (w - 1)) e u)))
        (λ b. b)
        (first_or_after y (others_wait y u))

    pub taken_sum : (f : ByLevel → ℕ) → sum_by f (take w old) ≡ sum_by f (x ∷ take (w - 1) new)
    taken_sum f = sum_by-IsPermutation f (x ∷ take (w - 1) new) (take w old) t.holds
