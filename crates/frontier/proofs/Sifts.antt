-- One exchange after another, until the heap is whole. Assumes nothing.
use Rattle.std.proofs.Common.{◌≡◌, ℕ, ◌<◌, Bool, true, false, List, get_or, set, sym, refl, ap, ◌∙◌, subst, ap₂, ⊎_elim, arith}
use Rattle.std.proofs.lemmas.Bool.{cases_eq}
use Rattle.frontier.specs.Heaps.{parent, Sinking, SoonerChild}
use Rattle.frontier.specs.Orders.{Order}
use Rattle.frontier.proofs.Ranks.{chain}

-- the entries at a and b have changed places, as the contract of `swap` has it
abbrev pub Swapped : {X : Type 0} → List X → List X → ℕ → ℕ → Type 0
Swapped {X} xs ys a b =
    ((d : X) → get_or ys a d ≡ get_or xs b d)
    × ((d : X) → get_or ys b d ≡ get_or xs a d)
    × ((k : ℕ) (d : X) → (k ≡ a → ⊥) → (k ≡ b → ⊥) → get_or ys k d ≡ get_or xs k d)
    × ((d : X) → ys ≡ set (set xs a (get_or xs b d)) b (get_or xs a d))

-- the heap but for the entry at h, which may have to go up: its children come after its parent all the same
pub record Rising {X : Type 0} (before : X → X → Bool) (xs : List X) (n h : ℕ) : Type 0 where
  pub others : (i : ℕ) (d : X) → 0 < i → i < n → (i ≡ h → ⊥) → before (get_or xs i d) (get_or xs (parent i) d) ≡ false
  pub around : (i : ℕ) (d : X) → 0 < i → i < n → parent i ≡ h → 0 < h → before (get_or xs i d) (get_or xs (parent h) d) ≡ false

module _ {X : Type 0} (before : X → X → Bool) where
  -- a fact on two entries, at other terms for them
  moved : {x y u v : X} → x ≡ u → y ≡ v → before u v ≡ false → before x y ≡ false
  moved p q f = ap₂ before p q ∙ f

  module _ (o : Order before) (xs : List X) (n h : ℕ) where
    pub rise_steps : (ys : List X) → 0 < h → h < n → ((d : X) → before (get_or xs h d) (get_or xs (parent h) d) ≡ true) → Swapped xs ys h (parent h) →
        Rising before xs n h → Rising before ys n (parent h)
    rise_steps ys s lt sooner w r =
        let up = parent h in
        let low : up < h = omega arith in
        let after : (d : X) → before (get_or xs up d) (get_or xs h d) ≡ false = λ d. o.oneway _ _ (sooner d) in
        record {
          others = λ i d p l ne.
              ⊎_elim
              (λ e.
              let here = moved (w.0 d) (w.1 d) (after d) in
              subst (λ k. before (get_or ys k d) (get_or ys (parent k) d) ≡ false) (sym e) here)
              (λ nh.
              let same = w.2 i d nh ne in
              ⊎_elim
              (λ e. moved same (ap (λ k. get_or ys k d) e ∙ w.0 d) (r.around i d p l e s))
              (λ ph.
              ⊎_elim
              (λ e.
              let old = moved refl (sym (ap (λ k. get_or xs k d) e)) (r.others i d p l nh) in
              moved same (ap (λ k. get_or ys k d) e ∙ w.1 d) (chain before o _ _ _ old (after d)))
              (λ pu. moved same (w.2 (parent i) d ph pu) (r.others i d p l nh))
              (cases_eq (parent i) up))
              (cases_eq (parent i) h))
              (cases_eq i h);
          around = λ i d p l c u.
              let nh : up ≡ h → ⊥ = λ e. omega arith in
              let above = r.others up d u (omega arith) nh in
              let pu : parent up ≡ up → ⊥ = λ e. omega arith in
              let ph : parent up ≡ h → ⊥ = λ e. omega arith in
              let top = w.2 (parent up) d ph pu in
              ⊎_elim
              (λ e. moved (ap (λ k. get_or ys k d) e ∙ w.0 d) top above)
              (λ ne.
              let iu : i ≡ up → ⊥ = λ e. omega arith in
              let old = moved refl (sym (ap (λ k. get_or xs k d) c)) (r.others i d p l ne) in
              moved (w.2 i d ne iu) top (chain before o _ _ _ old above))
              (cases_eq i h);
        }

    module _ (c : ℕ) (k : SoonerChild before xs n h c) where
      pub sink_steps : (ys : List X) → ((d : X) → before (get_or xs c d) (get_or xs h d) ≡ true) → Swapped xs ys h c → Sinking before xs n h → Sinking before ys n c
      sink_steps ys sooner w r =
          let up = k.child in
          let cs = k.some in
          let low : h < c = omega arith in
          record {
            others = λ i d p l nc.
                ⊎_elim
                (λ e.
                let head = ap (λ j. get_or ys j d) e ∙ w.0 d in
                ⊎_elim
                (λ ic. moved (ap (λ j. get_or ys j d) ic ∙ w.1 d) head (o.oneway _ _ (sooner d)))
                (λ ne.
                let nh : i ≡ h → ⊥ = λ q. omega arith in
                moved (w.2 i d nh ne) head (k.first i d p l e))
                (cases_eq i c))
                (λ ph.
                let top = w.2 (parent i) d ph nc in
                let ne : i ≡ c → ⊥ = λ q. ph (ap parent q ∙ up) in
                ⊎_elim
                (λ e.
                let s : 0 < h = omega arith in
                moved (ap (λ j. get_or ys j d) e ∙ w.0 d) (top ∙ ap (λ j. get_or xs (parent j) d) e) (r.around c d cs k.within up s))
                (λ nh. moved (w.2 i d nh ne) top (r.others i d p l ph))
                (cases_eq i h))
                (cases_eq (parent i) h);
            around = λ i d p l e s.
                let nh : i ≡ h → ⊥ = λ q. omega arith in
                let ne : i ≡ c → ⊥ = λ q. omega arith in
                let np : parent i ≡ h → ⊥ = λ q. omega arith in
                moved (w.2 i d nh ne) (ap (λ j. get_or ys j d) up ∙ w.0 d ∙ sym (ap (λ j. get_or xs j d) e)) (r.others i d p l np);
          }
