-- A history has one file order, and so one file. Assumes nothing.
use Rattle.std.proofs.Common.{◌≡◌, ℕ, zero, suc, ◌<◌, Bool, true, ◌⊎◌, List, length, get_or, sym, ap, ◌∙◌, subst, inl, inr, ⊎_elim, arith}
use Rattle.std.proofs.lemmas.List.{ext_get_or}
use Rattle.std.proofs.lemmas.Bool.{both_ways, cases_order}
use Rattle.history.specs.History.{Commit, commit_of}
use Rattle.history.specs.Ids.{precedes}
use Rattle.history.proofs.Ids.{precedes_one_way}
use Rattle.graph_file.specs.Encoding.{FileOrder, layout_of}
use Rattle.graph_file.specs.Layout.{file_bytes}

-- f has n numbers, and each comes before those behind it
abbrev pub Rises : (ℕ → ℕ → Bool) → ℕ → (ℕ → ℕ) → Type 0
Rises before n f = (i j : ℕ) → i < j → j < n → before (f i) (f j) ≡ true

-- what f has, g has too
abbrev pub Covers : ℕ → (ℕ → ℕ) → (ℕ → ℕ) → Type 0
Covers n f g = (i : ℕ) → i < n → (j : ℕ) × (j < n) × (g j ≡ f i)

-- the same numbers rise in one way only
module _ (before : ℕ → ℕ → Bool) (one_way : (x y : ℕ) → before x y ≡ true → before y x ≡ true → ⊥) (n : ℕ) where
  -- where both agree below i, what f has at i stands there in g too, or behind
  same_or_later : (f g : ℕ → ℕ) → Rises before n f → Rises before n g → Covers n f g → (i : ℕ) → i < n → ((j : ℕ) → j < i → f j ≡ g j) →
      (f i ≡ g i) ⊎ (before (g i) (f i) ≡ true)
  same_or_later f g rf rg fg i lt below =
      let q = fg i lt in
      let j = q.0 in
      let twice : j < i → ⊥ = λ l. let b = subst (λ x. before x (f i) ≡ true) (below j l ∙ q.2) (rf j i l lt) in one_way (f i) (f i) b b in
      ⊎_elim
      (λ e. inl (sym q.2 ∙ ap g e))
      (λ d. ⊎_elim (λ l. absurd (twice l)) (λ l. inr (subst (λ x. before (g i) x ≡ true) q.2 (rg i j l q.1))) d)
      (cases_order j i)

  module _ (f g : ℕ → ℕ) (rf : Rises before n f) (rg : Rises before n g) (fg : Covers n f g) (gf : Covers n g f) where
    same_below : (k i : ℕ) → i < k → i < n → f i ≡ g i
    unfolding same_or_later
    same_below zero i low lt = absurd (omega arith)
    same_below (suc k) i low lt =
        let below : (j : ℕ) → j < i → f j ≡ g j = λ j l. same_below k j (omega arith) (omega arith) in
        ⊎_elim
        (λ e. e)
        (λ b. ⊎_elim (λ e. sym e) (λ c. absurd (one_way (g i) (f i) b c)) (same_or_later g f rg rf gf i lt (λ j l. sym (below j l))))
        (same_or_later f g rf rg fg i lt below)

    pub same_rising : (i : ℕ) → i < n → f i ≡ g i
    unfolding same_below
    same_rising i lt = same_below (suc i) i (omega arith) lt

module _ (h : List Commit) where
  abbrev before : ℕ → ℕ → Bool
  before a b = precedes (commit_of h a).id (commit_of h b).id

  rises : (order : List ℕ) → FileOrder h order → Rises before (length h) (λ i. get_or order i 0)
  rises order s i j l lt = s.rising i j l (omega (arith, s.long))

  covers : (o₁ o₂ : List ℕ) → FileOrder h o₁ → FileOrder h o₂ → Covers (length h) (λ i. get_or o₁ i 0) (λ i. get_or o₂ i 0)
  covers o₁ o₂ s₁ s₂ i lt =
      let q = s₂.complete (get_or o₁ i 0) (s₁.held i (omega (arith, s₁.long))) in
      (q.0, omega (arith, q.1, s₂.long), q.2)

  module _ (o₁ o₂ : List ℕ) (s₁ : FileOrder h o₁) (s₂ : FileOrder h o₂) where
    pub order_unique : o₁ ≡ o₂
    unfolding rises covers
    order_unique =
        ext_get_or 0 o₁ o₂ (s₁.long ∙ sym s₂.long)
        (λ i lt.
        same_rising before (λ a b p q. both_ways (before b a) (precedes_one_way (commit_of h a).id (commit_of h b).id p) q) (length h)
        (λ k. get_or o₁ k 0) (λ k. get_or o₂ k 0) (rises o₁ s₁) (rises o₂ s₂) (covers o₁ o₂ s₁ s₂) (covers o₂ o₁ s₂ s₁) i (omega (arith, s₁.long)))

    pub file_unique : file_bytes (layout_of h o₁) ≡ file_bytes (layout_of h o₂)
    file_unique = ap (λ o. file_bytes (layout_of h o)) order_unique
