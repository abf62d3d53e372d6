-- Options that are none. Assumes nothing.
use Rattle.std.proofs.Common.{◌≡◌, ℕ, Bool, true, false, cond, Some, None, Option, refl, arith}
use Rattle.std.specs.Option.{option_map}
use Rattle.graph_reader.specs.Faults.{either}

pub never_none : {X A : Type 0} (x : X) → Some x ≡ None → A
never_none x e = let z : ◌≡◌ {A = ℕ} 0 1 = cc e in absurd (omega arith)

pub mapped_none : {X Y : Type 0} (f : X → Y) (x : Option X) → option_map f x ≡ None → x ≡ None
mapped_none f None e = refl
mapped_none f (Some x) e = never_none (f x) e

pub either_none : {X Y : Type 0} (f : X → Y) (x : Option X) (y : Option Y) → either (option_map f x) y ≡ None → (x ≡ None) × (y ≡ None)
either_none f None y e = (refl, e)
either_none f (Some x) y e = never_none (f x) e

-- a test whose failure refuses has not failed where nothing is refused
pub cond_none : {X : Type 0} (b : Bool) (x : X) (y : Option X) → cond b (Some x) y ≡ None → (b ≡ false) × (y ≡ None)
cond_none true x y e = never_none x e
cond_none false x y e = (refl, e)
