use Rattle.std.proofs.Common.{◌≡◌, ℕ, zero, suc, List, [], ◌∷◌, get_or, refl, sym, subst₂, length, arith}
use Rattle.ancestry.specs.Painting.{Tidy}
use Rattle.ancestry.proofs.Tidying.{tidy_start}
use Rattle.ancestry.proofs.walk.Walk.begin.Goals as goal

abbrev zeros : List ℕ
zeros = 0 ∷ 0 ∷ 0 ∷ 0 ∷ 0 ∷ []

none : (v : ℕ) → get_or zeros v 0 ≡ 0
none zero = refl
none (suc zero) = refl
none (suc (suc zero)) = refl
none (suc (suc (suc zero))) = refl
none (suc (suc (suc (suc zero)))) = refl
none (suc (suc (suc (suc (suc v))))) = refl

pub invariant_of-walk : goal.invariant_of-walk
invariant_of-walk g c = (
  c.requires.held,
  subst₂ (λ q n. Tidy c.args.marks.now q n (length c.args.marks.now) zeros) (sym c.over.ensures.entries) (sym c.over.ensures.empty)
      (tidy_start c.args.marks.now c.args.queue.now c.requires.clear c.requires.room (omega (arith, c.requires.held, c.args.graph.now.few)) zeros none),
)
