-- The number of each refusal. Assumes nothing.
use Rattle.std.specs.Prelude.{ℕ, List, [], ◌∷◌}
use Rattle.history.specs.declared.refusal.Refusal.{Refusal}
use Rattle.history.specs.declared.refusal.Refusal.TheVariants.{DateTooLate, TooManyParents, ParentNotHeld, IdHeld, CapacityPassed, ParentCapacityPassed, BufferTooShort, ResultTooShort, CommitNotHeld}

abbrev pub refusal_number : Refusal → ℕ
refusal_number DateTooLate = 1
refusal_number TooManyParents = 2
refusal_number ParentNotHeld = 3
refusal_number IdHeld = 4
refusal_number CapacityPassed = 5
refusal_number ParentCapacityPassed = 6
refusal_number BufferTooShort = 7
refusal_number (ResultTooShort needed) = 8
refusal_number CommitNotHeld = 9

-- the values that a refusal carries
abbrev pub refusal_values : Refusal → List ℕ
refusal_values DateTooLate = []
refusal_values TooManyParents = []
refusal_values ParentNotHeld = []
refusal_values IdHeld = []
refusal_values CapacityPassed = []
refusal_values ParentCapacityPassed = []
refusal_values BufferTooShort = []
refusal_values (ResultTooShort needed) = needed ∷ []
refusal_values CommitNotHeld = []
