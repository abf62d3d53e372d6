-- What paints tell, joined and handed on. Assumes nothing.
use Rattle.std.proofs.Common.{◌≡◌, ℕ, ◌<◌, true, false, ◌&&◌, ◌||◌, sym, refl, ap, ◌∙◌, ap₂, arith}
use Rattle.std.proofs.lemmas.Bool.Decides.{nat_tests}
use Rattle.std.proofs.lemmas.Bool.{both_ways, or_parts, or_from}
use Rattle.ancestry.specs.declared.paint.Paint.{Paint}
use Rattle.ancestry.specs.declared.paint.Paint.TheVariants.{Clear, Left, Right, Both, Below}
use Rattle.ancestry.specs.Paints.{byte_of, paint_of, left, right, below, joined, passed}

pub joined_bits : (x y : Paint) →
    (left (joined x y) ≡ (left x || left y)) × (right (joined x y) ≡ (right x || right y)) × (below (joined x y) ≡ (below x || below y))
joined_bits Clear y = (refl, refl, refl)
joined_bits Left Clear = (refl, refl, refl)
joined_bits Left Left = (refl, refl, refl)
joined_bits Left Right = (refl, refl, refl)
joined_bits Left Both = (refl, refl, refl)
joined_bits Left Below = (refl, refl, refl)
joined_bits Right Clear = (refl, refl, refl)
joined_bits Right Left = (refl, refl, refl)
joined_bits Right Right = (refl, refl, refl)
joined_bits Right Both = (refl, refl, refl)
joined_bits Right Below = (refl, refl, refl)
joined_bits Both Clear = (refl, refl, refl)
joined_bits Both Left = (refl, refl, refl)
joined_bits Both Right = (refl, refl, refl)
joined_bits Both Both = (refl, refl, refl)
joined_bits Both Below = (refl, refl, refl)
joined_bits Below y = (refl, refl, refl)

pub passed_bits : (x : Paint) → (left (passed x) ≡ left x) × (right (passed x) ≡ right x) × (below (passed x) ≡ (left x && right x))
passed_bits Clear = (refl, refl, refl)
passed_bits Left = (refl, refl, refl)
passed_bits Right = (refl, refl, refl)
passed_bits Both = (refl, refl, refl)
passed_bits Below = (refl, refl, refl)

pub below_both : (x : Paint) → below x ≡ true → (left x ≡ true) × (right x ≡ true)
below_both Clear e = absurd (both_ways false refl e)
below_both Left e = absurd (both_ways false refl e)
below_both Right e = absurd (both_ways false refl e)
below_both Both e = (refl, refl)
below_both Below e = (refl, refl)

pub paint_byte : (x : Paint) → paint_of (byte_of x) ≡ x
paint_byte Clear = refl
paint_byte Left = refl
paint_byte Right = refl
paint_byte Both = refl
paint_byte Below = refl

-- a paint is clear, or something reached the commit
pub painted_bits : (x : Paint) → (x ≡ Clear → ⊥) → (left x || right x) ≡ true
painted_bits Clear no-clear = absurd (no-clear refl)
painted_bits Left no-clear = refl
painted_bits Right no-clear = refl
painted_bits Both no-clear = refl
painted_bits Below no-clear = refl

pub passed_painted : (x : Paint) → (x ≡ Clear → ⊥) → passed x ≡ Clear → ⊥
passed_painted x no-clear e =
    let b = passed_bits x in
    both_ways (left x || right x) (sym (ap₂ (λ u v. u || v) b.0 b.1) ∙ ap (λ p. left p || right p) e) (painted_bits x no-clear)

pub joined_painted : (x y : Paint) → (y ≡ Clear → ⊥) → joined x y ≡ Clear → ⊥
joined_painted x y no-clear e =
    let b = joined_bits x y in
    let l = or_parts (left x) (left y) (sym b.0 ∙ ap left e) in
    let r = or_parts (right x) (right y) (sym b.1 ∙ ap right e) in
    both_ways (left y || right y) (or_from (left y) (right y) l.1 r.1) (painted_bits y no-clear)

-- only the byte 0 is clear
pub clear_zero : (x : ℕ) → paint_of x ≡ Clear → x ≡ 0
clear_zero x e = grind (arith, nat_tests)

pub zero_clear : (x : ℕ) → x ≡ 0 → paint_of x ≡ Clear
zero_clear x e = ap paint_of e

pub byte_small : (x : Paint) → byte_of x < 5
byte_small Clear = omega arith
byte_small Left = omega arith
byte_small Right = omega arith
byte_small Both = omega arith
byte_small Below = omega arith

pub byte_painted : (x : Paint) → (x ≡ Clear → ⊥) → 0 < byte_of x
byte_painted Clear no-clear = absurd (no-clear refl)
byte_painted Left no-clear = omega arith
byte_painted Right no-clear = omega arith
byte_painted Both no-clear = omega arith
byte_painted Below no-clear = omega arith

pub only_left : (x : Paint) → left x ≡ true → right x ≡ false → x ≡ Left
only_left Clear l r = absurd (both_ways false refl l)
only_left Left l r = refl
only_left Right l r = absurd (both_ways false refl l)
only_left Both l r = absurd (both_ways true r refl)
only_left Below l r = absurd (both_ways true r refl)

pub only_right : (x : Paint) → right x ≡ true → left x ≡ false → x ≡ Right
only_right Clear r l = absurd (both_ways false refl r)
only_right Left r l = absurd (both_ways false refl r)
only_right Right r l = refl
only_right Both r l = absurd (both_ways true l refl)
only_right Below r l = absurd (both_ways true l refl)

pub only_both : (x : Paint) → left x ≡ true → right x ≡ true → below x ≡ false → x ≡ Both
only_both Clear l r b = absurd (both_ways false refl l)
only_both Left l r b = absurd (both_ways false refl r)
only_both Right l r b = absurd (both_ways false refl l)
only_both Both l r b = refl
only_both Below l r b = absurd (both_ways true b refl)
