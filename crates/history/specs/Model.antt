-- The reference model of a history: its commits and the two capacities. Assumes nothing.
use Rattle.std.specs.Prelude.{ℕ, ◌+◌, min, Bool, cond, List, [], ◌∷◌, ◌++◌, length, is_some, Some, None, Ok, Err, Option, Result, nat_le, nat_lt}
use Rattle.std.specs.List.{list_all}
use Rattle.history.specs.declared.object_id.ObjectId.{ObjectId}
use Rattle.history.specs.declared.refusal.Refusal.{Refusal}
use Rattle.history.specs.declared.refusal.Refusal.TheVariants.{DateTooLate, TooManyParents, ParentNotHeld, IdHeld, CapacityPassed, ParentCapacityPassed}
use Rattle.history.specs.History.{Commit, find_id, parent_total}

pub record Model : Type 0 where
  pub commits : List Commit
  pub capacity : ℕ
  pub parent_capacity : ℕ

-- an empty history over tables of these lengths
abbrev pub opened : ℕ → ℕ → ℕ → ℕ → Model
opened rows labels order parents =
    record { commits = []; capacity = min (min rows labels) (min order 65536); parent_capacity = min parents 262144 }

-- a commit as it is given
abbrev pub commit_given : ObjectId → ObjectId → ℕ → List ℕ → Commit
commit_given id tree date parents = record { id = id.bytes; tree = tree.bytes; date = date; parents = parents }

-- one commit more, at the end
abbrev pub plus : Model → Commit → Model
plus m c = record { commits = m.commits ++ (c ∷ []); capacity = m.capacity; parent_capacity = m.parent_capacity }

abbrev pub refused_with : {X E : Type 0} → Result X E → Option E
refused_with (Ok x) = None
refused_with (Err e) = Some e

abbrev pub all_below : List ℕ → ℕ → Bool
all_below ps n = list_all (λ p. nat_lt p n) ps

-- why a commit cannot be added, tested in this order
abbrev pub add_refusal : Model → Commit → Option Refusal
add_refusal m c =
    cond (nat_lt 17179869183 c.date) (Some DateTooLate)
    (cond (nat_lt 64 (length c.parents)) (Some TooManyParents)
    (cond (all_below c.parents (length m.commits))
    (cond (is_some (find_id m.commits c.id)) (Some IdHeld)
    (cond (nat_le m.capacity (length m.commits)) (Some CapacityPassed)
    (cond (nat_lt m.parent_capacity (parent_total m.commits + length c.parents)) (Some ParentCapacityPassed) None)))
    (Some ParentNotHeld)))

-- what adding a commit answers: the new number, or the refusal
abbrev pub number_or : {E : Type 0} → ℕ → Option E → Result ℕ E
number_or n None = Ok n
number_or n (Some e) = Err e

abbrev pub add_reply : Model → Commit → Result ℕ Refusal
add_reply m c = number_or (length m.commits) (add_refusal m c)

-- an added commit comes last, a refused one changes nothing
abbrev pub with_commit : {E : Type 0} → Model → Commit → Option E → Model
with_commit m c None = plus m c
with_commit m c (Some e) = m

abbrev pub after_add : Model → Commit → Model
after_add m c = with_commit m c (add_refusal m c)
