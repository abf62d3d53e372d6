-- Paint that is laid on one commit. Assumes nothing.
use Rattle.std.proofs.Common.{◌≡◌, ℕ, ◌+◌, ◌-◌, ◌<◌, ◌≤◌, cond, ◌==◌, List, ◌∷◌, length, get_or, take, set, sym, refl, ap, ◌∙◌, ⊎_elim, Fits, w64, arith}
use Rattle.std.specs.List.Sorted.{IsPermutation}
use Rattle.std.proofs.lemmas.List.{length-set, get_or-set_same, get_or-set_other}
use Rattle.std.proofs.lemmas.Bool.{cases_eq}
use Rattle.std.proofs.lemmas.Bool.Decides.{nat_tests}
use Rattle.frontier.specs.Heaps.{TakenOut}
use Rattle.frontier.specs.declared.elements.ByNumber.{ByNumber}
use Rattle.ancestry.specs.declared.paint.Paint.{Paint}
use Rattle.ancestry.specs.declared.paint.Paint.TheVariants.{Clear}
use Rattle.ancestry.specs.Painting.{Tidy, waiting, higher, paint_at}
use Rattle.ancestry.specs.Paints.{byte_of, joined}
use Rattle.ancestry.proofs.Bits.{paint_byte, joined_painted, byte_painted, byte_small, clear_zero, zero_clear}
use Rattle.ancestry.proofs.Sums.{bears, bears_it, bears_none}
use Rattle.ancestry.proofs.Tidying.{tidy_again, tidy_joins, tidy_taken, taken_under, taken_painted, count_holds, count_small}

-- one commit more, or one fewer, bears the paint of byte p
abbrev pub more : List ℕ → ℕ → List ℕ
more counts p = set counts p (get_or counts p 0 + 1)

abbrev pub fewer : List ℕ → ℕ → List ℕ
fewer counts p = set counts p (get_or counts p 0 - 1)

abbrev one : ℕ → ℕ → ℕ
one p v = cond (p == v) 1 0

module _ (counts : List ℕ) (p v : ℕ) (lt : p < length counts) where
  more_at : get_or (more counts p) v 0 ≡ get_or counts v 0 + one p v
  more_at =
      ⊎_elim
      (λ e. let s = get_or-set_same counts p (get_or counts p 0 + 1) 0 lt in grind (arith, nat_tests))
      (λ ne. let o = get_or-set_other counts p v (get_or counts p 0 + 1) 0 (λ e. ne (sym e)) in grind (arith, nat_tests))
      (cases_eq p v)

  fewer_at : get_or (fewer counts p) v 0 ≡ get_or counts v 0 - one p v
  fewer_at =
      ⊎_elim
      (λ e. let s = get_or-set_same counts p (get_or counts p 0 - 1) 0 lt in grind (arith, nat_tests))
      (λ ne. let o = get_or-set_other counts p v (get_or counts p 0 - 1) 0 (λ e. ne (sym e)) in grind (arith, nat_tests))
      (cases_eq p v)

-- a commit's paint is changed: i is the place of the new paint among the counts, j that of the old one, and y the new paint's byte
module _ (marks : List ℕ) (queue : List ByNumber) (count low : ℕ) (bearing : List ℕ) (within : count ≤ length queue) (tidy : Tidy marks queue count low bearing)
    (five : length bearing ≡ 5) (number : ℕ) (under : number < low) (present paint arriving : Paint) (i y : ℕ) (was : present ≡ paint_at marks number)
    (is : paint ≡ joined present arriving) (paints : arriving ≡ Clear → ⊥) (at_i : i ≡ byte_of paint) (at_y : y ≡ byte_of paint) where
  painted : paint ≡ Clear → ⊥
  painted e = joined_painted present arriving paints (sym is ∙ e)

  within_i : i < length bearing
  within_i = omega (arith, byte_small paint)

  some_i : 0 < i
  some_i = omega (arith, byte_painted paint painted)

  arrives : (v : ℕ) → bears v y ≡ one i v
  arrives v = ap (bears v) at_y ∙ ap (λ p. one (byte_of p) v) (paint_byte paint) ∙ ap (λ n. one n v) (sym at_i)

  leaves : (j v : ℕ) → j ≡ byte_of present → bears v (get_or marks number 0) ≡ one j v
  leaves j v at_j = ap (λ p. one (byte_of p) v) (sym was) ∙ ap (λ n. one n v) (sym at_j)

  pub fits : Fits w64 (get_or bearing i 0 + 1)
  fits = omega (arith, count_small marks queue count low bearing within tidy i some_i)

  pub held : (j : ℕ) → j ≡ byte_of present → (present ≡ Clear → ⊥) → 0 < get_or (more bearing i) j 0
  held j at_j old =
      let here = count_holds marks queue count low bearing within tidy j (omega (arith, byte_painted present old)) number under in
      omega (arith, here, bears_it j (get_or marks number 0) (ap byte_of (sym was) ∙ sym at_j), more_at bearing i j within_i)

  pub lay_again : (j : ℕ) → j ≡ byte_of present → (present ≡ Clear → ⊥) → Tidy (set marks number y) queue count low (fewer (more bearing i) j)
  lay_again j at_j old =
      tidy_again marks queue count low bearing within tidy (fewer (more bearing i) j) number (get_or marks number 0) y refl
      (λ e. omega (arith, byte_painted paint painted)) under
      (λ v some.
      let holds = count_holds marks queue count low bearing within tidy v some number under in
      let long = length-set bearing i (get_or bearing i 0 + 1) in
      omega (arith, holds, arrives v, leaves j v at_j, more_at bearing i v within_i, fewer_at (more bearing i) j v (omega (arith, byte_small present))))
      (λ e. old (was ∙ zero_clear (get_or marks number 0) e))

  pub lay_joins : present ≡ Clear → (queue' : List ByNumber) (count' : ℕ) → length queue' ≡ length queue → count' ≤ length queue' →
      IsPermutation (waiting number ∷ take count queue) (take count' queue') → Tidy (set marks number y) queue' count' low (more bearing i)
  lay_joins clear queue' count' same fits holds =
      let none = clear_zero (get_or marks number 0) (sym was ∙ clear) in
      tidy_joins marks queue count low bearing within tidy (more bearing i) number (get_or marks number 0) y refl
      (λ e. omega (arith, byte_painted paint painted)) under
      (λ v some. omega (arith, arrives v, more_at bearing i v within_i, ap (bears v) none, bears_none v some))
      none queue' count' same fits holds

-- a commit that was taken out is no longer counted
module _ (marks : List ℕ) (queue : List ByNumber) (count low : ℕ) (bearing : List ℕ) (within : count ≤ length queue) (tidy : Tidy marks queue count low bearing)
    (five : length bearing ≡ 5) (queue' : List ByNumber) (count' c : ℕ) (one_less : count' + 1 ≡ count) (taken : TakenOut higher queue queue' count (waiting c))
    (same : length queue' ≡ length queue) (paint : Paint) (j : ℕ) (was : paint ≡ paint_at marks c) (at_j : j ≡ byte_of paint) where
  pub take_painted : paint ≡ Clear → ⊥
  take_painted e =
      taken_painted marks queue count low bearing within tidy queue' count' c one_less taken same (clear_zero (get_or marks c 0) (sym was ∙ e))

  pub take_held : 0 < get_or bearing j 0
  take_held =
      let under = taken_under marks queue count low bearing within tidy queue' count' c one_less taken same in
      let here = count_holds marks queue count low bearing within tidy j (omega (arith, byte_painted paint take_painted)) c under in
      omega (arith, here, bears_it j (get_or marks c 0) (ap byte_of (sym was) ∙ sym at_j))

  pub take_leaves : Tidy marks queue' count' c (fewer bearing j)
  take_leaves =
      tidy_taken marks queue count low bearing within tidy queue' count' c one_less taken same (fewer bearing j)
      (λ v. let e = ap (λ p. one (byte_of p) v) (sym was) ∙ ap (λ n. one n v) (sym at_j) in omega (arith, e, fewer_at bearing j v (omega (arith, byte_small paint))))
