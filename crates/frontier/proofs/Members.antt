-- What is among a queue, and queues with no element twice. Assumes nothing.
-- The laws are of two queues, where b's has x and what a's has: a is the queue before a push, and the queue after x is taken out.
use Rattle.std.proofs.Common.{◌≡◌, ℕ, zero, suc, ◌<◌, ◌≤◌, ◌⊎◌, List, ◌∷◌, length, get_or, take, sym, refl, ap, ◌∙◌, subst, inl, inr, ⊎_elim, arith}
use Rattle.std.specs.List.Sorted.{IsPermutation}
use Rattle.std.specs.List.{swap}
use Rattle.std.proofs.lemmas.Bool.{cases_eq}
use Rattle.std.proofs.lemmas.List.{get_or-take, get_or_default, length-take-le}
use Rattle.std.proofs.lemmas.List.Edits.{swapped_from_swap, length-swap}
use Rattle.std.proofs.lemmas.List.Sorted.{IsPermutation-sym, IsPermutation-keeps}
use Rattle.std.proofs.ByRecursion.{has_shuffled}
use Rattle.frontier.specs.Heaps.{Among, Distinct}

-- an entry is among the entries
pub entry_among : {X : Type 0} (xs : List X) (n k : ℕ) (d : X) → n ≤ length xs → k < n → Among (get_or xs k d) xs n
entry_among xs n k d le lt = (k, lt, λ e. get_or_default xs k e d (omega arith))

pub distinct_none : {X : Type 0} (xs : List X) → Distinct xs 0
unfolding Distinct
distinct_none xs i j d p q e = absurd (omega arith)

-- the place j is read at k, after the entries at a and b have changed places
abbrev From : ℕ → ℕ → ℕ → ℕ → Type 0
From a b k j = ((k ≡ a) × (j ≡ b)) ⊎ (((k ≡ b) × (j ≡ a)) ⊎ ((k ≡ a → ⊥) × (k ≡ b → ⊥) × (k ≡ j)))

from_once : (a b k k' j : ℕ) → From a b k j → From a b k' j → k ≡ k'
from_once a b k k' j p q = grind arith

module _ {X : Type 0} where
  -- the whole list and a part of it
  among_part : (y : X) (xs : List X) (n : ℕ) → n ≤ length xs → Among y xs n → Among y (take n xs) (length (take n xs))
  among_part y xs n le w =
      let l = length-take-le n xs le in
      (w.0, omega (arith, w.1), λ d. get_or-take n xs w.0 d w.1 ∙ w.2 d)

  among_whole : (y : X) (xs : List X) (n : ℕ) → n ≤ length xs → Among y (take n xs) (length (take n xs)) → Among y xs n
  among_whole y xs n le w =
      let l = length-take-le n xs le in
      let lt : w.0 < n = omega (arith, w.1) in
      (w.0, lt, λ d. sym (get_or-take n xs w.0 d lt) ∙ w.2 d)

  distinct_part : (xs : List X) (n : ℕ) → n ≤ length xs → Distinct xs n → Distinct (take n xs) (length (take n xs))
  unfolding Distinct
  distinct_part xs n le w i j d p q e =
      let l = length-take-le n xs le in
      let p' : i < n = omega arith in
      let q' : j < n = omega arith in
      w i j d p' q' (sym (get_or-take n xs i d p') ∙ e ∙ get_or-take n xs j d q')

  distinct_whole : (xs : List X) (n : ℕ) → n ≤ length xs → Distinct (take n xs) (length (take n xs)) → Distinct xs n
  unfolding Distinct
  distinct_whole xs n le w i j d p q e =
      let l = length-take-le n xs le in
      w i j d (omega arith) (omega arith) (get_or-take n xs i d p ∙ e ∙ sym (get_or-take n xs j d q))

  -- no exchange brings an element to a second place
  distinct_exchanged : (xs : List X) (a b : ℕ) → a < length xs → b < length xs → Distinct xs (length xs) → Distinct (swap xs a b) (length (swap xs a b))
  unfolding Distinct
  distinct_exchanged xs a b la lb w i j d p q e =
      let ys = swap xs a b in
      let s = swapped_from_swap xs ys a b d la lb refl in
      let l = length-swap xs a b in
      let from : (k : ℕ) → k < length xs → (m : ℕ) × (m < length xs) × (get_or ys k d ≡ get_or xs m d) × From a b k m =
      λ k lt.
      ⊎_elim
      (λ ea. (b, lb, ap (λ z. get_or ys z d) ea ∙ s.0, inl (ea, refl)))
      (λ na.
      ⊎_elim
      (λ eb. (a, la, ap (λ z. get_or ys z d) eb ∙ s.1, inr (inl (eb, refl))))
      (λ nb. (k, lt, s.2 k na nb, inr (inr (na, nb, refl))))
      (cases_eq k b))
      (cases_eq k a) in
      let f = from i (omega arith) in
      let h = from j (omega arith) in
      let same = w f.0 h.0 d f.1 h.1 (sym f.2 ∙ e ∙ h.2) in
      from_once a b i j f.0 f.3 (subst (λ z. From a b j z) (sym same) h.3)

  distinct_shuffled : (xs ys : List X) → IsPermutation xs ys → Distinct xs (length xs) → Distinct ys (length ys)
  distinct_shuffled xs ys s w = IsPermutation-keeps xs (λ l. Distinct l (length l)) w (λ l i j p q v. distinct_exchanged l i j p q v) ys s

  among_cons : (x y : X) (l : List X) (k : ℕ) → k < length (x ∷ l) → ((d : X) → get_or (x ∷ l) k d ≡ y) → (y ≡ x) ⊎ Among y l (length l)
  among_cons x y l zero lt e = inl (sym (e x))
  among_cons x y l (suc k) lt e = inr (k, omega arith, e)

  distinct_cons : (x : X) (l : List X) → Distinct l (length l) → (Among x l (length l) → ⊥) → Distinct (x ∷ l) (length (x ∷ l))
  unfolding Distinct
  distinct_cons x l w fresh zero zero d p q e = refl
  distinct_cons x l w fresh zero (suc j) d p q e =
      let lt : j < length l = omega arith in absurd (fresh (j, lt, λ v. get_or_default l j v d lt ∙ sym e))
  distinct_cons x l w fresh (suc i) zero d p q e =
      let lt : i < length l = omega arith in absurd (fresh (i, lt, λ v. get_or_default l i v d lt ∙ e))
  distinct_cons x l w fresh (suc i) (suc j) d p q e = ap suc (w i j d (omega arith) (omega arith) e)

  module _ (x : X) (a b : List X) (n m : ℕ) (in_a : n ≤ length a) (in_b : m ≤ length b) (s : IsPermutation (x ∷ take n a) (take m b)) where
    pub among_more : (y : X) → (y ≡ x) ⊎ Among y a n → Among y b m
    among_more y w =
        among_whole y b m in_b
        (has_shuffled (x ∷ take n a) (take m b) y s
        (⊎_elim
        (λ e. (0, omega arith, λ d. sym e))
        (λ v. let u = among_part y a n in_a v in (suc u.0, omega (arith, u.1), u.2))
        w))

    pub among_less : (y : X) → Among y b m → (y ≡ x) ⊎ Among y a n
    among_less y w =
        let u = has_shuffled (take m b) (x ∷ take n a) y (IsPermutation-sym _ _ s) (among_part y b m in_b w) in
        ⊎_elim inl (λ v. inr (among_whole y a n in_a v)) (among_cons x y (take n a) u.0 u.1 u.2)

    pub distinct_more : Distinct a n → (Among x a n → ⊥) → Distinct b m
    distinct_more w fresh =
        distinct_whole b m in_b
        (distinct_shuffled (x ∷ take n a) (take m b) s
        (distinct_cons x (take n a) (distinct_part a n in_a w) (λ v. fresh (among_whole x a n in_a v))))

    apart : Distinct b m → Distinct (x ∷ take n a) (length (x ∷ take n a))
    apart w = distinct_shuffled (take m b) (x ∷ take n a) (IsPermutation-sym _ _ s) (distinct_part b m in_b w)

    pub distinct_less : Distinct b m → Distinct a n
    unfolding Distinct
    distinct_less w =
        distinct_whole a n in_a
        (λ i j d p q e. let same = apart w (suc i) (suc j) d (omega arith) (omega arith) e in omega arith)

    -- what is taken out does not stay
    pub taken_gone : Distinct b m → Among x a n → ⊥
    unfolding Distinct
    taken_gone w v =
        let u = among_part x a n in_a v in
        let same = apart w 0 (suc u.0) x (omega arith) (omega (arith, u.1)) (sym (u.2 x)) in
        omega arith
