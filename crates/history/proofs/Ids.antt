-- The order of ids is total. Assumes nothing.
use Rattle.std.proofs.Common.{◌≡◌, ℕ, ◌+◌, ◌<◌, Bool, true, false, ◌&&◌, ◌||◌, eqb, ltb, List, [], ◌∷◌, length, get_or, drop, sym, refl, ap, ◌∙◌, ap₂, ⊎_elim, arith}
use Rattle.std.proofs.lemmas.Bool.{ltb-true, ltb-false, eqb-true, eqb-false, lt-ltb, le-ltb, eq-eqb, ne_eqb, and_parts, and_cases, or_cases, or_parts, or_left, or_right, or_from, and_from, and_left, and_right, cases_Bool, both_ways}
use Rattle.std.proofs.lemmas.List.{drop_more}
use Rattle.history.specs.Ids.{precedes, same}

pub precedes_transitive : (xs ys zs : List ℕ) → precedes xs ys ≡ true → precedes ys zs ≡ true → precedes xs zs ≡ true
precedes_transitive [] [] zs p q = absurd (both_ways false refl p)
precedes_transitive [] (y ∷ ys) [] p q = absurd (both_ways false refl q)
precedes_transitive [] (y ∷ ys) (z ∷ zs) p q = refl
precedes_transitive (x ∷ xs) [] zs p q = absurd (both_ways false refl p)
precedes_transitive (x ∷ xs) (y ∷ ys) [] p q = absurd (both_ways false refl q)
precedes_transitive (x ∷ xs) (y ∷ ys) (z ∷ zs) p q =
    let by_first : x < z → precedes (x ∷ xs) (z ∷ zs) ≡ true = λ l. or_left (ltb x z) (eqb x z && precedes xs zs) (lt-ltb x z l) in
    ⊎_elim
    (λ (a : ltb x y ≡ true).
    let xy = ltb-true x y a in
    ⊎_elim
    (λ (b : ltb y z ≡ true). let yz = ltb-true y z b in by_first (omega arith))
    (λ (b : (eqb y z && precedes ys zs) ≡ true).
    let yz = eqb-true y z (and_parts (eqb y z) (precedes ys zs) b).0 in by_first (omega arith))
    (or_cases (ltb y z) (eqb y z && precedes ys zs) q))
    (λ (a : (eqb x y && precedes xs ys) ≡ true).
    let d = and_parts (eqb x y) (precedes xs ys) a in
    let xy = eqb-true x y d.0 in
    ⊎_elim
    (λ (b : ltb y z ≡ true). let yz = ltb-true y z b in by_first (omega arith))
    (λ (b : (eqb y z && precedes ys zs) ≡ true).
    let e = and_parts (eqb y z) (precedes ys zs) b in
    or_right (ltb x z) (eqb x z && precedes xs zs)
    (and_from (eqb x z) (precedes xs zs) (eq-eqb x z (xy ∙ eqb-true y z e.0)) (precedes_transitive xs ys zs d.1 e.1)))
    (or_cases (ltb y z) (eqb y z && precedes ys zs) q))
    (or_cases (ltb x y) (eqb x y && precedes xs ys) p)

pub precedes_one_way : (xs ys : List ℕ) → precedes xs ys ≡ true → precedes ys xs ≡ false
precedes_one_way [] [] p = refl
precedes_one_way [] (y ∷ ys) p = refl
precedes_one_way (x ∷ xs) [] p = absurd (both_ways false refl p)
precedes_one_way (x ∷ xs) (y ∷ ys) p =
    ⊎_elim
    (λ a. let l = ltb-true x y a in
    or_from _ _ (le-ltb y x (omega arith)) (and_left _ _ (ne_eqb y x (λ e. omega arith))))
    (λ a. let d = and_parts _ _ a in
    let e = eqb-true x y d.0 in
    or_from _ _ (le-ltb y x (omega arith)) (and_right _ _ (precedes_one_way xs ys d.1)))
    (or_cases _ _ p)

pub neither_precedes : (xs ys : List ℕ) → precedes xs ys ≡ false → precedes ys xs ≡ false → xs ≡ ys
neither_precedes [] [] p q = refl
neither_precedes [] (y ∷ ys) p q = absurd (both_ways true p refl)
neither_precedes (x ∷ xs) [] p q = absurd (both_ways true q refl)
neither_precedes (x ∷ xs) (y ∷ ys) p q =
    let a = or_parts (ltb x y) (eqb x y && precedes xs ys) p in
    let b = or_parts (ltb y x) (eqb y x && precedes ys xs) q in
    let e : x ≡ y = omega (arith, ltb-false x y a.0, ltb-false y x b.0) in
    ap₂ (λ h t. h ∷ t) e
    (neither_precedes xs ys
    (⊎_elim (λ n. absurd (eqb-false x y n e)) (λ n. n) (and_cases _ _ a.1))
    (⊎_elim (λ n. absurd (eqb-false y x n (sym e))) (λ n. n) (and_cases _ _ b.1)))

pub not_before_itself : (xs : List ℕ) → precedes xs xs ≡ false
not_before_itself xs =
    ⊎_elim (λ p. precedes_one_way xs xs p) (λ n. n) (cases_Bool (precedes xs xs))

pub same_true : (xs ys : List ℕ) → same xs ys ≡ true → xs ≡ ys
same_true [] [] p = refl
same_true [] (y ∷ ys) p = absurd (both_ways false refl p)
same_true (x ∷ xs) [] p = absurd (both_ways false refl p)
same_true (x ∷ xs) (y ∷ ys) p =
    let d = and_parts _ _ p in ap₂ (λ h t. h ∷ t) (eqb-true x y d.0) (same_true xs ys d.1)

pub same_itself : (xs : List ℕ) → same xs xs ≡ true
same_itself [] = refl
same_itself (x ∷ xs) = and_from _ _ (eq-eqb x x refl) (same_itself xs)

-- a byte on: equal so far
pub precedes_on : (xs ys : List ℕ) (i : ℕ) → i < length xs → i < length ys → get_or xs i 0 ≡ get_or ys i 0 →
    precedes (drop i xs) (drop i ys) ≡ precedes (drop (i + 1) xs) (drop (i + 1) ys)
precedes_on xs ys i a b e =
    let x = get_or xs i 0 in
    let y = get_or ys i 0 in
    ap₂ precedes (drop_more xs i 0 a) (drop_more ys i 0 b)
    ∙ ap₂ (λ p q. p || (q && precedes (drop (i + 1) xs) (drop (i + 1) ys))) (le-ltb x y (omega arith)) (eq-eqb x y e)

-- the first byte that differs decides
pub precedes_at : (xs ys : List ℕ) (i : ℕ) → i < length xs → i < length ys → (get_or xs i 0 ≡ get_or ys i 0 → ⊥) →
    precedes (drop i xs) (drop i ys) ≡ ltb (get_or xs i 0) (get_or ys i 0)
precedes_at xs ys i a b n =
    let x = get_or xs i 0 in
    let y = get_or ys i 0 in
    ap₂ precedes (drop_more xs i 0 a) (drop_more ys i 0 b)
    ∙ ap (λ q. ltb x y || (q && precedes (drop (i + 1) xs) (drop (i + 1) ys))) (ne_eqb x y n)
    ∙ or_nothing (ltb x y)
  where
    or_nothing : (b : Bool) → (b || false) ≡ b
    or_nothing true = refl
    or_nothing false = refl
