-- Sums over the commits in the file's order. Assumes nothing.
use Rattle.std.proofs.Common.{◌≡◌, ℕ, zero, suc, ◌+◌, ◌<◌, ◌≤◌, cond, eqb, ltb, List, [], ◌∷◌, map, length, get_or, take, sum_by, sym, refl, ap, ◌∙◌, ⊎_elim, arith}
use Rattle.std.proofs.lemmas.List.{take_more, take_all}
use Rattle.std.proofs.lemmas.List.Sums.{sum_by-cons}
use Rattle.std.proofs.lemmas.Bool.{cases_eq, cases_lt, lt-ltb, le-ltb, eq-eqb, ne_eqb, cond-true, cond-false}
use Rattle.history.specs.History.{Commit, no_commit, commit_of, parents_of, parent_total}
use Rattle.history.proofs.Adding.{total_push}
use Rattle.graph_file.specs.Encoding.{FileOrder}
use Rattle.graph_file.specs.Placing.{extras}
use Rattle.graph_file.proofs.Filing.{ordered_position}
use Rattle.graph_file.proofs.Sources.{extra_bound}
use Rattle.graph_reader.specs.Verdict.{total_of}
use Rattle.graph_reader.proofs.ParentsRead.{named_parents, length_named}

-- the places of a list that have a number
abbrev Only : List ℕ → ℕ → ℕ → Type 0
Only xs k i = (get_or xs i 0 ≡ k) × ((j : ℕ) → j < length xs → get_or xs j 0 ≡ k → j ≡ i)

module _ (f : ℕ → ℕ) where
  -- the sums over the entries that are k, and below n
  abbrev over : ℕ → List ℕ → ℕ
  over k xs = sum_by (λ x. cond (eqb x k) (f x) 0) xs

  abbrev under : ℕ → List ℕ → ℕ
  under n xs = sum_by (λ x. cond (ltb x n) (f x) 0) xs

  over_none : (k : ℕ) (xs : List ℕ) → ((j : ℕ) → j < length xs → get_or xs j 0 ≡ k → ⊥) → over k xs ≡ 0
  over_none k [] none = refl
  over_none k (x ∷ xs) none =
      omega (
        arith,
        sum_by-cons (λ y. cond (eqb y k) (f y) 0) x xs,
        cond-false _ (f x) 0 (ne_eqb x k (none 0 (omega arith))),
        over_none k xs (λ j lt. none (suc j) (omega arith)),
      )

  over_one : (k : ℕ) (xs : List ℕ) (i : ℕ) → i < length xs → Only xs k i → over k xs ≡ f k
  unfolding over_none
  over_one k [] i lt q = absurd (omega arith)
  over_one k (x ∷ xs) zero lt q =
      omega (
        arith,
        sum_by-cons (λ y. cond (eqb y k) (f y) 0) x xs,
        cond-true _ (f x) 0 (eq-eqb x k q.0),
        ap f q.0,
        over_none k xs (λ j l e. let z = q.1 (suc j) (omega arith) e in omega arith),
      )
  over_one k (x ∷ xs) (suc i) lt q =
      let ne : x ≡ k → ⊥ = λ e. let z = q.1 0 (omega arith) e in omega arith in
      omega (
        arith,
        sum_by-cons (λ y. cond (eqb y k) (f y) 0) x xs,
        cond-false _ (f x) 0 (ne_eqb x k ne),
        over_one k xs i (omega arith) (q.0, λ j l e. let z = q.1 (suc j) (omega arith) e in omega arith),
      )

  one_more : (n x : ℕ) → cond (ltb x (suc n)) (f x) 0 ≡ cond (ltb x n) (f x) 0 + cond (eqb x n) (f x) 0
  one_more n x =
      ⊎_elim
      (λ e. omega (arith, cond-true _ (f x) 0 (lt-ltb x (suc n) (omega arith)), cond-false _ (f x) 0 (le-ltb x n (omega arith)), cond-true _ (f x) 0 (eq-eqb x n e)))
      (λ ne. ⊎_elim
      (λ lt. omega (arith, cond-true _ (f x) 0 (lt-ltb x (suc n) (omega arith)), cond-true _ (f x) 0 (lt-ltb x n lt), cond-false _ (f x) 0 (ne_eqb x n ne)))
      (λ ge. omega (arith, cond-false _ (f x) 0 (le-ltb x (suc n) (omega arith)), cond-false _ (f x) 0 (le-ltb x n ge), cond-false _ (f x) 0 (ne_eqb x n ne)))
      (cases_lt x n))
      (cases_eq x n)

  under_more : (n : ℕ) (xs : List ℕ) → under (suc n) xs ≡ under n xs + over n xs
  unfolding one_more
  under_more n [] = refl
  under_more n (x ∷ xs) =
      omega (
        arith,
        sum_by-cons (λ y. cond (ltb y (suc n)) (f y) 0) x xs,
        sum_by-cons (λ y. cond (ltb y n) (f y) 0) x xs,
        sum_by-cons (λ y. cond (eqb y n) (f y) 0) x xs,
        one_more n x,
        under_more n xs,
      )

  under_none : (xs : List ℕ) → under 0 xs ≡ 0
  under_none [] = refl
  under_none (x ∷ xs) = omega (arith, sum_by-cons (λ y. cond (ltb y 0) (f y) 0) x xs, cond-false _ (f x) 0 (le-ltb x 0 (omega arith)), under_none xs)

  under_all : (n : ℕ) (xs : List ℕ) → ((j : ℕ) → j < length xs → get_or xs j 0 < n) → under n xs ≡ sum_by f xs
  under_all n [] held = refl
  under_all n (x ∷ xs) held =
      omega (
        arith,
        sum_by-cons (λ y. cond (ltb y n) (f y) 0) x xs,
        sum_by-cons f x xs,
        cond-true _ (f x) 0 (lt-ltb x n (held 0 (omega arith))),
        under_all n xs (λ j lt. held (suc j) (omega arith)),
      )

  -- over a list that has each number below n once, the sum is what adding f of 0, of 1, and so on comes to
  module _ (xs : List ℕ) (n : ℕ) (once : (k : ℕ) → k < n → (i : ℕ) × (i < length xs) × Only xs k i) (total : ℕ → ℕ) (more : (k : ℕ) → k < n → total (suc k) ≡ total k + f k) where
    under_is : total 0 ≡ 0 → (k : ℕ) → k ≤ n → under k xs ≡ total k
    unfolding under_none under_more over_one
    under_is start zero le = under_none xs ∙ sym start
    under_is start (suc k) le =
        let lt : k < n = omega arith in
        let q = once k lt in
        omega (arith, under_more k xs, over_one k xs q.0 q.1 q.2, under_is start k (omega arith), more k lt)

    pub sum_once : total 0 ≡ 0 → ((j : ℕ) → j < length xs → get_or xs j 0 < n) → sum_by f xs ≡ total n
    unfolding under_all under_is
    sum_once start held = sym (under_all n xs held) ∙ under_is start n (omega arith)

total_more : (h : List Commit) (k : ℕ) → k < length h → parent_total (take (suc k) h) ≡ parent_total (take k h) + length (parents_of h k)
total_more h k lt =
    ap (λ i. parent_total (take i h)) (let z : suc k ≡ k + 1 = omega arith in z)
    ∙ ap parent_total (take_more h k no_commit lt) ∙ total_push (take k h) (commit_of h k)

module _ (h : List Commit) (order : List ℕ) (s : FileOrder h order) where
  pub sum_parents : sum_by (λ n. length (parents_of h n)) order ≡ parent_total h
  unfolding total_more
  sum_parents =
      let f : ℕ → ℕ = λ n. length (parents_of h n) in
      sum_once f order (length h)
      (λ k lt. let q = s.complete k lt in
      (q.0, q.1, (q.2, λ j l e. sym (ordered_position h order s j k l e) ∙ ordered_position h order s q.0 k q.1 q.2)))
      (λ k. parent_total (take k h)) (total_more h) refl s.held
      ∙ ap parent_total (take_all (length h) h (omega arith))

  total_named : (ns : List ℕ) → total_of (map (named_parents h order) ns) ≡ sum_by (λ n. length (parents_of h n)) ns
  total_named [] = refl
  total_named (n ∷ ns) = omega (arith, sum_by-cons (λ m. length (parents_of h m)) n ns, length_named h order n, total_named ns)

  pub total_back : total_of (map (named_parents h order) order) ≡ parent_total h
  unfolding total_named
  total_back = total_named order ∙ sum_parents

  extras_under : (ns : List ℕ) → extras h ns ≤ sum_by (λ n. length (parents_of h n)) ns
  extras_under [] = omega arith
  extras_under (n ∷ ns) = omega (arith, sum_by-cons (λ m. length (parents_of h m)) n ns, extra_bound (parents_of h n), extras_under ns)

  pub extras_bound : extras h order ≤ parent_total h
  unfolding extras_under
  extras_bound = omega (arith, extras_under order, sum_parents)
