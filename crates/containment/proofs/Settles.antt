-- The pass that tells which commits of a trail reach the target, and what is read off the marks. Assumes nothing.
use Rattle.std.proofs.Common.{◌≡◌, ℕ, suc, ◌+◌, ◌<◌, ◌≤◌, ◌⊎◌, List, length, get_or, set, sym, refl, ap, ◌∙◌, subst, inl, inr, ⊎_elim, arith}
use Rattle.std.proofs.lemmas.Bool.{cases_eq, eq-eqb, ne_eqb, cond-true, cond-false}
use Rattle.std.proofs.lemmas.List.{get_or-set_same, get_or-set_other}
use Rattle.history.specs.Counting.{Tells}
use Rattle.history.specs.History.{Commit, Parent, Chain, Reaches}
use Rattle.history.specs.History.Chain.{here, onward}
use Rattle.containment.specs.Settling.{Leads, Keeps, Settled, told}
use Rattle.history.proofs.Chains.{chain_falls}

-- the first step of a chain
first_step : (h : List Commit) (a t k : ℕ) → Chain h a t k → (a ≡ t) ⊎ ((p : ℕ) × Parent h a p × Reaches h p t)
first_step h a t k here = inl refl
first_step h a t k (onward {p = p} {k = j} q c) = inr (p, q, (j, c))

module _ (h : List Commit) (t : ℕ) (falling : (a p : ℕ) → Parent h a p → p < a) (marks : List ℕ) (bits : (k : ℕ) → get_or marks k 0 ≤ 1) where
  pub settle_none : Settled h t t marks marks
  settle_none = record {
    only = λ k e. absurd (omega (arith, bits k, e));
    all = λ w k l e r. absurd (omega (arith, chain_falls h falling k t r.0 r.1));
    else = λ k. inr refl;
    above = λ k l. refl;
  }

  module _ (n : ℕ) (m : List ℕ) (s : Settled h t n marks m) where
    -- the commit is the target, or a parent of it reaches it
    pub settle_mark : n < length m → get_or m n 0 ≡ 1 → (n ≡ t) ⊎ Leads h m n → Settled h t (n + 1) marks (set m n 2)
    settle_mark within on way =
        let was : get_or marks n 0 ≡ 1 = sym (s.above n (omega arith)) ∙ on in
        let now_2 : get_or (set m n 2) n 0 ≡ 2 = get_or-set_same m n 2 0 within in
        let reach : Reaches h n t =
        ⊎_elim
        (λ e. subst (λ x. Reaches h x t) (sym e) (0, here))
        (λ w. let r = (s.only w.0 w.2).1 in (suc r.0, onward w.1 r.1))
        way in
        record {
          only = λ k e.
              ⊎_elim
              (λ q. (ap (λ x. get_or marks x 0) q ∙ was, subst (λ x. Reaches h x t) (sym q) reach))
              (λ ne. s.only k (sym (get_or-set_other m n k 2 0 ne) ∙ e))
              (cases_eq k n);
          all = λ w k l e r.
              ⊎_elim
              (λ q. ap (λ x. get_or (set m n 2) x 0) q ∙ now_2)
              (λ ne. get_or-set_other m n k 2 0 ne ∙ s.all w k (omega arith) e r)
              (cases_eq k n);
          else = λ k.
              ⊎_elim
              (λ q. inl (ap (λ x. get_or (set m n 2) x 0) q ∙ now_2))
              (λ ne. let other = get_or-set_other m n k 2 0 ne in ⊎_elim (λ u. inl (other ∙ u)) (λ u. inr (other ∙ u)) (s.else k))
              (cases_eq k n);
          above = λ k l. let ne : k ≡ n → ⊥ = λ q. omega arith in get_or-set_other m n k 2 0 ne ∙ s.above k (omega arith);
        }

    pub settle_skip : (get_or m n 0 ≡ 1 → (n ≡ t) ⊎ Leads h m n → ⊥) → Settled h t (n + 1) marks m
    settle_skip fails = record {
      only = s.only;
      all = λ w k l e r.
          ⊎_elim
          (λ q.
          let on : get_or marks n 0 ≡ 1 = subst (λ x. get_or marks x 0 ≡ 1) q e in
          let way = subst (λ x. Reaches h x t) q r in
          absurd
          (fails (s.above n (omega arith) ∙ on)
          (⊎_elim
          inl
          (λ f. inr (f.0, f.1, s.all w f.0 (falling n f.0 f.1) (w n f.0 on f.1 f.2) f.2))
          (first_step h n t way.0 way.1))))
          (λ ne. s.all w k (omega arith) e r)
          (cases_eq k n);
      else = s.else;
      above = λ k l. s.above k (omega arith);
    }

  module _ (m : List ℕ) (long : length m ≡ length marks) (s : Settled h t (length marks) marks m) where
    -- a settled mark tells whether its commit reaches the target, if each commit that does is marked
    pub settled_tells : (k byte : ℕ) → k < length marks → Keeps h t marks → (Reaches h k t → get_or marks k 0 ≡ 1) → byte ≡ told (get_or m k 0) → Tells byte (Reaches h k t)
    settled_tells k byte lt keeps marked is =
        ⊎_elim
        (λ e. inl (is ∙ cond-true _ _ _ (eq-eqb (get_or m k 0) 2 e), (s.only k e).1))
        (λ ne. inr (is ∙ cond-false _ _ _ (ne_eqb (get_or m k 0) 2 ne), λ r. ne (s.all keeps k lt (marked r) r)))
        (cases_eq (get_or m k 0) 2)
