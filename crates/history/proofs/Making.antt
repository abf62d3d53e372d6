-- One parent more. Assumes nothing.
use Rattle.std.proofs.Common.{◌≡◌, ℕ, ◌+◌, ◌<◌, List, length, get_or, take, sym, ◌∙◌, ap₂}
use Rattle.std.proofs.lemmas.List.Sums.{fold_more}
use Rattle.history.specs.Labels.{made}

module _ {L : Type 0} (start : ℕ → ℕ → L) (grown : L → L → L) (ls : List L) (date : ℕ) (ps : List ℕ) where
  -- the label grown by the parents before place i, and then by the parent there, whose label is y
  pub made_more : (i : ℕ) (x y z : L) → i < length ps → x ≡ made start grown ls date (take i ps) →
      y ≡ get_or ls (get_or ps i 0) (start (length ls) date) → z ≡ grown x y → z ≡ made start grown ls date (take (i + 1) ps)
  made_more i x y z lt ex ey ez =
      let s = start (length ls) date in
      ez ∙ ap₂ grown ex ey ∙ sym (fold_more (λ a q. grown a (get_or ls q s)) s ps i 0 lt)
