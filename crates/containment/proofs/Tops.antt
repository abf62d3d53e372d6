-- The greatest number that a question names. Assumes nothing.
use Rattle.std.proofs.Common.{◌≡◌, ℕ, zero, suc, ◌<◌, ◌≤◌, max, List, [], ◌∷◌, length, get_or, fold, refl, ◌∙◌, arith}
use Rattle.containment.specs.Trails.{top_commit}

module _ (target : ℕ) where
  pub top_target : (tips : List ℕ) → target ≤ top_commit target tips
  top_target [] = omega arith
  top_target (tip ∷ tips) = omega (arith, top_target tips)

  pub top_tip : (tips : List ℕ) (i : ℕ) → i < length tips → get_or tips i 0 ≤ top_commit target tips
  top_tip [] i lt = absurd (omega arith)
  top_tip (tip ∷ tips) zero lt = omega arith
  top_tip (tip ∷ tips) (suc i) lt = omega (arith, top_tip tips i (omega arith))

top_raised : (tips : List ℕ) (x y : ℕ) → top_commit (max x y) tips ≡ max y (top_commit x tips)
top_raised [] x y = omega arith
top_raised (tip ∷ tips) x y = omega (arith, top_raised tips x y)

-- the greatest number, found one tip after another
pub fold_top : (tips : List ℕ) (target : ℕ) → fold max target tips ≡ top_commit target tips
fold_top [] target = refl
fold_top (tip ∷ tips) target = fold_top tips (max target tip) ∙ top_raised tips target tip
