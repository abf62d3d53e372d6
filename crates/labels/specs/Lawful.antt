-- The laws of the label kinds, from those of a stepped number and of a falling number. Assumes nothing.
use Rattle.std.specs.Prelude.{◌≡◌, ℕ, ◌+◌, ◌≤◌, min, Bool, true, ◌&&◌, nat_le, refl}
use Rattle.std.proofs.Common.{sym, ap, subst, ⊎_elim, arith}
use Rattle.std.proofs.lemmas.Bool.{cases_lt, and_parts, and_from}
use Rattle.std.proofs.lemmas.Bool.Decides.{nat_tests}
use Rattle.labels.specs.Formulas.{stepped, beyond}
use Rattle.labels.specs.Kinds.{interval_top, interval_grown, interval_allows, pair_grown, pair_allows}
use Rattle.labels.specs.Laws.{Laws}

-- a number that steps up, whatever its top
pub stepped_laws : (top : ℕ) → Laws (stepped top) (beyond top)
stepped_laws top = record {
  transitive = λ x y z a b. grind (arith, nat_tests);
  over = λ x p. grind (arith, nat_tests);
  kept = λ x p q a. grind (arith, nat_tests);
}

-- a number that only falls
pub lowered_laws : Laws min nat_le
lowered_laws = record {
  transitive = λ x y z a b. grind (arith, nat_tests);
  over = λ x p. grind (arith, nat_tests);
  kept = λ x p q a. grind (arith, nat_tests);
}

-- labels that are compared by a part, or a value, which grows lawfully
pub laws_by : {L V : Type 0} {step : V → V → V} {test : V → V → Bool} (grown : L → L → L) (value : L → V) →
    ((x p : L) → value (grown x p) ≡ step (value x) (value p)) → Laws step test → Laws grown (λ x y. test (value x) (value y))
laws_by {test = test} grown value is l = record {
  transitive = λ x y z. l.transitive (value x) (value y) (value z);
  over = λ x p. subst (λ v. test v (value p) ≡ true) (sym (is x p)) (l.over (value x) (value p));
  kept = λ x p q a. subst (λ v. test v (value q) ≡ true) (sym (is x p)) (l.kept (value x) (value p) (value q) a);
}

-- two lawful tests at once
pub laws_both : {L : Type 0} {grown : L → L → L} {f g : L → L → Bool} → Laws grown f → Laws grown g → Laws grown (λ x y. f x y && g x y)
laws_both {grown = grown} {f = f} {g = g} k l = record {
  transitive = λ x y z a b.
      let u = and_parts (f x y) (g x y) a in
      let v = and_parts (f y z) (g y z) b in
      and_from (f x z) (g x z) (k.transitive x y z u.0 v.0) (l.transitive x y z u.1 v.1);
  over = λ x p. and_from (f (grown x p) p) (g (grown x p) p) (k.over x p) (l.over x p);
  kept = λ x p q a.
      let u = and_parts (f x q) (g x q) a in
      and_from (f (grown x p) q) (g (grown x p) q) (k.kept x p q u.0) (l.kept x p q u.1);
}

pub interval_laws : Laws interval_grown interval_allows
interval_laws =
    laws_both
    (laws_by interval_grown (λ x. x.low) (λ x p. refl) lowered_laws)
    (laws_by interval_grown (λ x. x.high) (λ x p. refl) (stepped_laws interval_top))

pub pair_laws : {L M : Type 0} {f : L → L → L} {may_f : L → L → Bool} {g : M → M → M} {may_g : M → M → Bool} →
    Laws f may_f → Laws g may_g → Laws (pair_grown f g) (pair_allows may_f may_g)
pair_laws {f = f} {g = g} k l =
    laws_both
    (laws_by (pair_grown f g) (λ x. x.0) (λ x p. refl) k)
    (laws_by (pair_grown f g) (λ x. x.1) (λ x p. refl) l)

-- labels that stand for numbers: one that a label has, or up to the top, is kept
module _ {L : Type 0} (top : ℕ) (value : L → ℕ) (label : ℕ → L) (back : (x : L) → label (value x) ≡ x) (held : (n : ℕ) → n ≤ top → value (label n) ≡ n) where
  pub value_stepped : (x p : L) → value (label (stepped top (value x) (value p))) ≡ stepped top (value x) (value p)
  value_stepped x p =
      ⊎_elim
      (λ lt. held (stepped top (value x) (value p)) (omega arith))
      (λ ge.
      let e : stepped top (value x) (value p) ≡ value x = omega arith in
      subst (λ n. value (label n) ≡ n) (sym e) (ap value (back x)))
      (cases_lt (value x) (min (value p + 1) top))

  pub numbered_laws : Laws (λ x p. label (stepped top (value x) (value p))) (λ x y. beyond top (value x) (value y))
  numbered_laws = laws_by (λ x p. label (stepped top (value x) (value p))) value value_stepped (stepped_laws top)
