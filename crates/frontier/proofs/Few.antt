-- A queue of different elements has at most as many entries as there are numbers for them. Assumes nothing.
use Rattle.std.proofs.Common.{◌≡◌, ℕ, zero, suc, ◌<◌, ◌≤◌, List, ◌∷◌, eqb, true, map, get_or, sym, refl, ◌∙◌, ne_eqb, arith}
use Rattle.std.specs.List.{range_with_len, list_any, IsDistinct}
use Rattle.std.proofs.lemmas.Bool.{eqb-true}
use Rattle.std.proofs.lemmas.List.Folds.{Any-from_list_any}
use Rattle.std.proofs.lemmas.List.FromFn.{get_or-map-range_with_len, length-map-range_with_len}
use Rattle.std.proofs.lemmas.Map.Keys.{IsDistinct-from_apart}
use Rattle.std.proofs.lemmas.Map.Steps.{length-le_from_distinct_below}
use Rattle.frontier.specs.Heaps.{Distinct}

-- numbers below m that all differ are at most m
few : (m n : ℕ) (f : ℕ → ℕ) → ((i : ℕ) → i < n → f i < m) → ((i j : ℕ) → i < n → j < n → f i ≡ f j → i ≡ j) → n ≤ m
few m n f low once =
    let ks = map f (range_with_len 0 n) in
    let long = length-map-range_with_len f 0 n in
    let at : (i d : ℕ) → i < n → get_or ks i d ≡ f i = λ i d l. get_or-map-range_with_len f 0 n i i d l (omega arith) in
    let apart : IsDistinct eqb ks =
    IsDistinct-from_apart eqb ks
    (λ i j d lt l.
    let p : i < n = omega arith in
    let q : j < n = omega arith in
    ne_eqb _ _ (λ e. let same = once i j p q (sym (at i d p) ∙ e ∙ at j d q) in omega arith)) in
    let below : (q : ℕ) → list_any (eqb q) ks ≡ true → q < m =
    λ q h.
    let w = Any-from_list_any (eqb q) ks h in
    let l : w.0 < n = omega (arith, w.2) in
    let e = eqb-true q w.1 w.4 in
    omega (arith, low w.0 l, at w.0 w.1 l, w.3, e) in
    omega (arith, long, length-le_from_distinct_below ks m apart below)

-- where the entries of a queue are told apart by numbers below m
pub distinct_few : {X : Type 0} (number : X → ℕ) (xs : List X) (n m : ℕ) (d : X) → ((k : ℕ) → k < n → number (get_or xs k d) < m) →
    ((j k : ℕ) → j < n → k < n → number (get_or xs j d) ≡ number (get_or xs k d) → get_or xs j d ≡ get_or xs k d) → Distinct xs n → n ≤ m
unfolding Distinct
distinct_few number xs n m d low told w = few m n (λ k. number (get_or xs k d)) low (λ j k p q e. w j k d p q (told j k p q e))

-- and a new element has a number of its own
module _ {X : Type 0} (number : X → ℕ) (xs : List X) (n m : ℕ) (x d : X) (new : number x < m) (low : (k : ℕ) → k < n → number (get_or xs k d) < m)
    (fresh : (k : ℕ) → k < n → number (get_or xs k d) ≡ number x → ⊥)
    (told : (j k : ℕ) → j < n → k < n → number (get_or xs j d) ≡ number (get_or xs k d) → get_or xs j d ≡ get_or xs k d) where
  low_cons : (k : ℕ) → k < suc n → number (get_or (x ∷ xs) k d) < m
  low_cons zero lt = new
  low_cons (suc k) lt = low k (omega arith)

  once_cons : Distinct xs n → (j k : ℕ) → j < suc n → k < suc n → number (get_or (x ∷ xs) j d) ≡ number (get_or (x ∷ xs) k d) → j ≡ k
  unfolding Distinct
  once_cons w zero zero p q e = refl
  once_cons w zero (suc k) p q e = absurd (fresh k (omega arith) (sym e))
  once_cons w (suc j) zero p q e = absurd (fresh j (omega arith) e)
  once_cons w (suc j) (suc k) p q e =
      let same = w j k d (omega arith) (omega arith) (told j k (omega arith) (omega arith) e) in omega arith

  pub fresh_few : Distinct xs n → n < m
  fresh_few w =
      let all = few m (suc n) (λ k. number (get_or (x ∷ xs) k d)) low_cons (once_cons w) in omega arith
