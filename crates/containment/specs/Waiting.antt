-- The commits that wait in the queue of a walk. Assumes nothing.
use Rattle.std.specs.Prelude.{ℕ, List}
use Rattle.std.specs.Coded.{Coded-set, coded_ℕ, Π_prop, →_prop}
use Rattle.frontier.specs.declared.elements.ByNumber.{ByNumber}
use Rattle.frontier.specs.Heaps.{Distinct}

abbrev pub numbered : ℕ → ByNumber
numbered n = record { number = n }

pub Distinct-prop : {X : Type 0} (xs : List X) (n : ℕ) → IsProp (Distinct xs n)
unfolding Distinct
Distinct-prop xs n = Π_prop (λ i. Π_prop (λ j. Π_prop (λ d. →_prop (→_prop (→_prop (Coded-set coded_ℕ _ _))))))
