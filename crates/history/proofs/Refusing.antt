-- The order of the tests before a commit is added. Assumes nothing.
use Rattle.std.proofs.Common.{◌≡◌, ℕ, ◌+◌, Bool, true, false, cond, ltb, leb, length, is_some, Some, None, Option, refl, arith}
use Rattle.std.proofs.lemmas.Bool.{both_ways}
use Rattle.history.specs.declared.refusal.Refusal.{Refusal}
use Rattle.history.specs.declared.refusal.Refusal.TheVariants.{DateTooLate, TooManyParents, ParentNotHeld, IdHeld, CapacityPassed, ParentCapacityPassed}
use Rattle.history.specs.History.{Commit, find_id, parent_total}
use Rattle.history.specs.Model.{Model, all_below, add_refusal}

-- what is left to test from each test on, the last one first
module _ (m : Model) (c : Commit) where
  abbrev from_parent_capacity : Option Refusal
  from_parent_capacity = cond (ltb m.parent_capacity (parent_total m.commits + length c.parents)) (Some ParentCapacityPassed) None

  abbrev from_capacity : Option Refusal
  from_capacity = cond (leb m.capacity (length m.commits)) (Some CapacityPassed) from_parent_capacity

  abbrev from_id : Option Refusal
  from_id = cond (is_some (find_id m.commits c.id)) (Some IdHeld) from_capacity

  abbrev from_held : Option Refusal
  from_held = cond (all_below c.parents (length m.commits)) from_id (Some ParentNotHeld)

  abbrev from_number : Option Refusal
  from_number = cond (ltb 64 (length c.parents)) (Some TooManyParents) from_held

-- a test that does not refuse
passes : {E : Type 0} (b : Bool) (x : E) (r : Option E) → cond b (Some x) r ≡ None → (b ≡ false) × (r ≡ None)
passes true x r e = let z : ◌≡◌ {A = ℕ} 0 1 = cc in absurd (omega arith)
passes false x r e = (refl, e)

passes_if : {E : Type 0} (b : Bool) (x : E) (r : Option E) → cond b r (Some x) ≡ None → r ≡ None
passes_if true x r e = e
passes_if false x r e = let z : ◌≡◌ {A = ℕ} 0 1 = cc in absurd (omega arith)

none_from : {X : Type 0} (o : Option X) → is_some o ≡ false → o ≡ None
none_from None e = refl
none_from (Some x) e = absurd (both_ways true e refl)

-- a commit that is not refused has a new id
pub accepted_fresh : (m : Model) (c : Commit) → add_refusal m c ≡ None → find_id m.commits c.id ≡ None
accepted_fresh m c e =
    let number = (passes (ltb 17179869183 c.date) DateTooLate (from_number m c) e).1 in
    let held = (passes (ltb 64 (length c.parents)) TooManyParents (from_held m c) number).1 in
    let id = passes_if (all_below c.parents (length m.commits)) ParentNotHeld (from_id m c) held in
    none_from (find_id m.commits c.id) (passes (is_some (find_id m.commits c.id)) IdHeld (from_capacity m c) id).0
