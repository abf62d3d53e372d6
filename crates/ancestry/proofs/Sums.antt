-- Counts of the marks that show a paint. Assumes nothing.
use Rattle.std.proofs.Common.{◌≡◌, ℕ, zero, suc, ◌+◌, ◌<◌, ◌≤◌, cond, List, [], ◌∷◌, length, get_or, take, refl, ap, ◌∙◌, arith}
use Rattle.std.proofs.lemmas.Bool.Decides.{nat_tests}
use Rattle.std.proofs.lemmas.List.Sums.{sum_by-cons}
use Rattle.std.specs.List.{sum_by}
use Rattle.ancestry.specs.Painting.{shows}
use Rattle.ancestry.specs.Paints.{byte_of, paint_of}

module _ (f : ℕ → ℕ) where
  pub sum_zero : (xs : List ℕ) (n : ℕ) → ((k : ℕ) → k < n → f (get_or xs k 0) ≡ 0) → sum_by f (take n xs) ≡ 0
  sum_zero xs zero all = refl
  sum_zero [] (suc n) all = refl
  sum_zero (x ∷ xs) (suc n) all = omega (arith, sum_by-cons f x (take n xs), all 0 (omega arith), sum_zero xs n (λ k lt. all (suc k) (omega arith)))

  -- a front that ends where the last entry that counts stands
  pub sum_cut : f 0 ≡ 0 → (xs : List ℕ) (c n : ℕ) → c < n → n ≤ length xs → ((k : ℕ) → c < k → k < n → get_or xs k 0 ≡ 0) →
      sum_by f (take n xs) ≡ sum_by f (take c xs) + f (get_or xs c 0)
  sum_cut none xs c zero lt le all = absurd (omega arith)
  sum_cut none [] c (suc n) lt le all = absurd (omega arith)
  sum_cut none (x ∷ xs) zero (suc n) lt le all =
      omega (arith, sum_by-cons f x (take n xs), sum_zero xs n (λ k l. ap f (all (suc k) (omega arith) (omega arith)) ∙ none))
  sum_cut none (x ∷ xs) (suc c) (suc n) lt le all =
      omega (arith, sum_by-cons f x (take n xs), sum_by-cons f x (take c xs), sum_cut none xs c n (omega arith) (omega arith) (λ k l m. all (suc k) (omega arith) (omega arith)))

-- 1 for a mark that shows the paint of byte v, and 0 for another
abbrev pub bears : ℕ → ℕ → ℕ
bears v mark = cond (shows v mark) 1 0

module _ (v : ℕ) where
  pub bears_it : (mark : ℕ) → byte_of (paint_of mark) ≡ v → bears v mark ≡ 1
  bears_it mark e = grind (arith, nat_tests)

  pub bears_not : (mark : ℕ) → (byte_of (paint_of mark) ≡ v → ⊥) → bears v mark ≡ 0
  bears_not mark ne = grind (arith, nat_tests)

  pub bears_none : 0 < v → bears v 0 ≡ 0
  bears_none some = bears_not 0 (λ e. omega arith)
