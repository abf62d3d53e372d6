-- Lists of parents under other numbers, and the levels above them. Assumes nothing.
use Rattle.std.proofs.Common.{◌≡◌, ℕ, suc, ◌<◌, ◌≤◌, List, [], ◌∷◌, map, length, get_or, fold, refl, ap, ◌∙◌, ap₂, arith}
use Rattle.std.proofs.lemmas.Simd.{map-map}
use Rattle.std.proofs.lemmas.List.{map-id}
use Rattle.history.specs.Generations.{above}

pub same_map : (f g : ℕ → ℕ) (ps : List ℕ) → ((j : ℕ) → j < length ps → f (get_or ps j 0) ≡ g (get_or ps j 0)) → map f ps ≡ map g ps
same_map f g [] same = refl
same_map f g (p ∷ ps) same = ap₂ ◌∷◌ (same 0 (omega arith)) (same_map f g ps (λ j lt. same (suc j) (omega arith)))

-- what g does to each entry, f undoes
pub mapped_back : (f g : ℕ → ℕ) (ps : List ℕ) → ((j : ℕ) → j < length ps → f (g (get_or ps j 0)) ≡ get_or ps j 0) → map f (map g ps) ≡ ps
mapped_back f g ps back = map-map f g ps ∙ same_map (λ p. f (g p)) (λ p. p) ps back ∙ map-id ps

-- the greatest of s and one more than each entry's value
abbrev pub climbed : (ℕ → ℕ) → ℕ → List ℕ → ℕ
climbed value s ps = fold (λ x p. above x (value p)) s ps

pub climbed_same : (u v : ℕ → ℕ) (ps : List ℕ) (s : ℕ) → ((j : ℕ) → j < length ps → u (get_or ps j 0) ≡ v (get_or ps j 0)) → climbed u s ps ≡ climbed v s ps
climbed_same u v [] s same = refl
climbed_same u v (p ∷ ps) s same =
    ap (λ x. climbed u (above s x) ps) (same 0 (omega arith)) ∙ climbed_same u v ps (above s (v p)) (λ j lt. same (suc j) (omega arith))

pub climbed_map : (u r : ℕ → ℕ) (ps : List ℕ) (s : ℕ) → climbed u s (map r ps) ≡ climbed (λ p. u (r p)) s ps
climbed_map u r [] s = refl
climbed_map u r (p ∷ ps) s = climbed_map u r ps (above s (u (r p)))

pub climbed_most : (u : ℕ → ℕ) (ps : List ℕ) (s m : ℕ) → s ≤ m → ((j : ℕ) → j < length ps → u (get_or ps j 0) < m) → climbed u s ps ≤ m
climbed_most u [] s m le low = le
climbed_most u (p ∷ ps) s m le low = climbed_most u ps (above s (u p)) m (omega (arith, low 0 (omega arith))) (λ j lt. low (suc j) (omega arith))
