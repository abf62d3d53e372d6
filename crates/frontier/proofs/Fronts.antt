-- The queue in the front of a slice, as its parts are lent. Assumes nothing.
use Rattle.std.proofs.Common.{◌≡◌, ℕ, zero, suc, ◌+◌, ◌-◌, ◌<◌, ◌≤◌, Bool, false, List, [], ◌∷◌, ◌++◌, length, get_or, take, drop, set, sym, ap, ◌∙◌, subst, ⊎_elim, arith}
use borrow.Rule.Slice.PartMut.{put_mid}
use Rattle.std.specs.List.Sorted.{IsPermutation}
use Rattle.std.proofs.lemmas.Bool.{cases_eq}
use Rattle.std.proofs.lemmas.List.{take_all, take-append-le, take_more, take_more_set, length-set}
use Rattle.std.proofs.lemmas.Slice.{take-put_mid, drop-put_mid}
use Rattle.std.proofs.lemmas.List.Sorted.{IsPermutation-sym, IsPermutation-trans, IsPermutation-cons, IsPermutation-to_front}
use Rattle.frontier.specs.Heaps.{parent, First, Queued}
use Rattle.frontier.specs.Orders.{Order}
use Rattle.frontier.proofs.Ranks.{chain, itself, same_or_after}
use Rattle.frontier.proofs.Sifts.{Swapped}

-- what stands in the front after a write to it, and behind it
pub front_after : {X : Type 0} (n : ℕ) (xs ys : List X) → length ys ≡ n → take n (put_mid 0 (n - 0) xs ys) ≡ ys
front_after n xs ys e = take-put_mid 0 (n - 0) xs ys n (omega arith) (omega arith)

pub rest_after : {X : Type 0} (n : ℕ) (xs ys : List X) → length ys ≡ n → drop n (put_mid 0 (n - 0) xs ys) ≡ drop n xs
rest_after n xs ys e = drop-put_mid 0 (n - 0) xs ys n (omega arith) (omega arith) (omega arith)

module _ {X : Type 0} (before : X → X → Bool) where
  -- no entries are a queue
  pub queued_none : (xs : List X) → Queued before xs 0
  unfolding Queued
  queued_none xs i d p l = absurd (omega arith)

  module _ (o : Order before) (xs : List X) (n : ℕ) (q : Queued before xs n) (d : X) where
    -- nothing comes before the root; b bounds the place, for the induction
    after_root : (b k : ℕ) → k ≤ b → k < n → before (get_or xs k d) (get_or xs 0 d) ≡ false
    unfolding Queued
    after_root zero k le lt = let e : k ≡ 0 = omega arith in ap (λ j. before (get_or xs j d) (get_or xs 0 d)) e ∙ itself before o _
    after_root (suc b) k le lt =
        ⊎_elim
        (λ e. ap (λ j. before (get_or xs j d) (get_or xs 0 d)) e ∙ itself before o _)
        (λ ne. chain before o _ _ _ (q k d (omega arith) lt) (after_root b (parent k) (omega arith) (omega arith)))
        (cases_eq k 0)

  pub root_first : Order before → (xs : List X) (n : ℕ) (x : X) → Queued before xs n → ((d : X) → x ≡ get_or xs 0 d) → First before xs n x
  root_first o xs n x q root k d lt =
      same_or_after before o x (get_or xs k d) (ap (before (get_or xs k d)) (root d) ∙ after_root o xs n q d k k (omega arith) lt)

module _ {X : Type 0} (x : X) where
  pub put_holds : (xs ys : List X) (last : ℕ) → length xs ≡ last + 1 → IsPermutation (set xs last x) ys → IsPermutation (x ∷ take last xs) ys
  put_holds xs ys last e s =
      let is : set xs last x ≡ take last xs ++ (x ∷ []) =
      sym (take_all (last + 1) (set xs last x) (omega (arith, length-set xs last x))) ∙ take_more_set xs last x (omega arith) in
      let t = subst (λ zs. IsPermutation zs ys) is s in
      IsPermutation-trans (x ∷ take last xs) (take last xs ++ (x ∷ [])) ys (IsPermutation-sym _ _ (IsPermutation-to_front (take last xs) x)) t

  pub take_holds : (xs ys zs ws : List X) (last : ℕ) → length ys ≡ last + 1 → length zs ≡ last → x ≡ get_or xs 0 x → Swapped xs ys 0 last →
      IsPermutation xs ys → IsPermutation (take last ys) zs → IsPermutation (x ∷ take last (zs ++ ws)) xs
  take_holds xs ys zs ws last e l root w s t =
      let is : ys ≡ take last ys ++ (x ∷ []) =
      sym (take_all (last + 1) ys (omega arith)) ∙ take_more ys last x (omega arith)
      ∙ ap (λ y. take last ys ++ (y ∷ [])) (w.1 x ∙ sym root) in
      let out : IsPermutation ys (x ∷ take last ys) = subst (λ a. IsPermutation a (x ∷ take last ys)) (sym is) (IsPermutation-to_front (take last ys) x) in
      let all = IsPermutation-trans _ _ _ (IsPermutation-trans _ _ _ s out) (IsPermutation-cons x (take last ys) zs t) in
      let front : take last (zs ++ ws) ≡ zs = take-append-le last zs ws (omega arith) ∙ take_all last zs (omega arith) in
      subst (λ a. IsPermutation (x ∷ a) xs) (sym front) (IsPermutation-sym _ _ all)
