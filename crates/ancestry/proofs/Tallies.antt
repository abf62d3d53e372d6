-- Counting the commits that only one side reaches. Assumes nothing.
use Rattle.std.proofs.Common.{◌≡◌, ℕ, zero, suc, ◌+◌, ◌-◌, ◌<◌, ◌≤◌, Bool, true, false, List, sym, ap, ◌∙◌, subst, ⊎_elim, arith}
use Rattle.std.proofs.lemmas.Bool.{both_ways, cases_Bool}
use Rattle.history.specs.Counting.{Tally}
use Rattle.history.specs.Counting.Tally.{ended, with_it, without}
use Rattle.history.specs.History.{Commit, Reaches}
use Rattle.ancestry.specs.declared.paint.Paint.{Paint}
use Rattle.ancestry.specs.Ancestry.{Ahead}
use Rattle.history.proofs.Chains.{reaches_on}

module _ (P : ℕ → Type 0) (n : ℕ) where
  none_by : (gap m v : ℕ) → Tally P n (m + gap) v → ((k : ℕ) → m ≤ k → k < m + gap → P k → ⊥) → Tally P n m v
  none_by zero m v t none = let e : m + 0 ≡ m = omega arith in subst (λ j. Tally P n j v) e t
  none_by (suc gap) m v t none =
      let e : m + suc gap ≡ suc (m + gap) = omega arith in
      none_by gap m v (without (none (m + gap) (omega arith) (omega arith)) (subst (λ j. Tally P n j v) e t)) (λ k le lt. none k le (omega arith))

  -- the numbers from `low` up to `high` add nothing
  pub none_between : (low high v : ℕ) → low ≤ high → Tally P n high v → ((k : ℕ) → low ≤ k → k < high → P k → ⊥) → Tally P n low v
  none_between low high v le t none =
      let e : low + (high - low) ≡ high = omega arith in
      none_by (high - low) low v (subst (λ j. Tally P n j v) (sym e) t) (λ k a b. none k a (omega arith))

  pub none_from : (low : ℕ) → low ≤ n → ((k : ℕ) → low ≤ k → P k → ⊥) → Tally P n low 0
  none_from low le none = none_between low n 0 le ended (λ k a _. none k a)

-- x's ancestors that y has not, told by the paints: those that bear x's mark alone
module _ (h : List Commit) (x y low : ℕ) (paint : ℕ → Paint) (bit other : Paint → Bool) (only : Paint)
    (has : bit only ≡ true) (has_not : other only ≡ false) (is_only : (p : Paint) → bit p ≡ true → other p ≡ false → p ≡ only)
    (exact_x : (k : ℕ) → low ≤ k → Reaches h x k → bit (paint k) ≡ true) (sound_x : (k : ℕ) → bit (paint k) ≡ true → Reaches h x k)
    (exact_y : (k : ℕ) → low ≤ k → Reaches h y k → other (paint k) ≡ true) (sound_y : (k : ℕ) → other (paint k) ≡ true → Reaches h y k) where
  ahead_at : (k : ℕ) → low ≤ k → paint k ≡ only → Ahead h x y k
  ahead_at k le e =
      (sound_x k (ap bit e ∙ has), λ r. both_ways (other (paint k)) (ap other e ∙ has_not) (exact_y k le r))

  not_ahead_at : (k : ℕ) → low ≤ k → (paint k ≡ only → ⊥) → Ahead h x y k → ⊥
  not_ahead_at k le no-only ahead =
      ⊎_elim
      (λ t. ahead.1 (sound_y k t))
      (λ f. no-only (is_only (paint k) (exact_x k le ahead.0) f))
      (cases_Bool (other (paint k)))

  module _ (n high v : ℕ) (under : low < high) (skipped : (k : ℕ) → low < k → k < high → paint k ≡ only → ⊥) (t : Tally (Ahead h x y) n high v) where
    above_low : Tally (Ahead h x y) n (suc low) v
    above_low = none_between (Ahead h x y) n (suc low) high v (omega arith) t (λ k le lt. not_ahead_at k (omega arith) (skipped k (omega arith) lt))

    pub one_more : paint low ≡ only → Tally (Ahead h x y) n low (suc v)
    one_more e = with_it (ahead_at low (omega arith) e) above_low

    pub no_more : (paint low ≡ only → ⊥) → Tally (Ahead h x y) n low v
    no_more ne = without (not_ahead_at low (omega arith) ne) above_low

  -- where nothing below `low` bears x's mark alone, nothing below adds to the count
  pub none_below : ((k : ℕ) → k < low → Reaches h x k → (q : ℕ) × (q < low) × (bit (paint q) ≡ true) × Reaches h q k) →
      ((k : ℕ) → k < low → paint k ≡ only → ⊥) → (n v : ℕ) → Tally (Ahead h x y) n low v → Tally (Ahead h x y) n 0 v
  none_below crosses none n v t =
      none_between (Ahead h x y) n 0 low v (omega arith) t
      (λ k _ lt ahead.
      let q = crosses k lt ahead.0 in
      ⊎_elim
      (λ u. ahead.1 (reaches_on h y q.0 k (sound_y q.0 u) q.3))
      (λ f. none q.0 q.1 (is_only (paint q.0) q.2 f))
      (cases_Bool (other (paint q.0))))
