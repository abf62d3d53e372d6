-- Counting marks. Assumes nothing.
use Rattle.std.proofs.Common.{◌≡◌, ℕ, suc, ◌+◌, cond, eqb, List, [], ◌∷◌, length, get_or, count_by, sym, subst, ⊎_elim, arith}
use Rattle.std.proofs.lemmas.List.Sums.{sum_by-cons}
use Rattle.std.proofs.lemmas.Bool.{cond-true, cond-false, eq-eqb, ne_eqb}
use Rattle.history.specs.Counting.{Tally, Tells}
use Rattle.history.specs.Counting.Tally.{ended, with_it, without}

abbrev pub ones : List ℕ → ℕ
ones marks = count_by (λ m. eqb m 1) marks

-- where each mark tells P, the marks that are 1 are the numbers that have P; n is how far the list begins
tally_from : (P : ℕ → Type 0) (marks : List ℕ) (n size : ℕ) → size ≡ n + length marks → ((k : ℕ) → Tells (get_or marks k 0) (P (n + k))) → Tally P size n (ones marks)
tally_from P [] n size e tells = let q : size ≡ n = omega arith in subst (λ x. Tally P size x 0) q ended
tally_from P (m ∷ marks) n size e tells =
    let rest = tally_from P marks (suc n) size (omega arith)
    (λ k. let q : n + suc k ≡ suc n + k = omega arith in subst (λ x. Tells (get_or marks k 0) (P x)) q (tells (suc k))) in
    let is : ones (m ∷ marks) ≡ cond (eqb m 1) 1 0 + ones marks = sum_by-cons (λ x. cond (eqb x 1) 1 0) m marks in
    let same : n + 0 ≡ n = omega arith in
    ⊎_elim
    (λ u.
    let one : cond {A = ℕ} (eqb m 1) 1 0 ≡ 1 = cond-true (eqb m 1) 1 0 (eq-eqb m 1 u.0) in
    let v : suc (ones marks) ≡ ones (m ∷ marks) = omega arith in
    subst (λ x. Tally P size n x) v (with_it (subst P same u.1) rest))
    (λ u.
    let none : cond {A = ℕ} (eqb m 1) 1 0 ≡ 0 = cond-false (eqb m 1) 1 0 (ne_eqb m 1 (λ q. omega (arith, u.0, q))) in
    let v : ones marks ≡ ones (m ∷ marks) = omega arith in
    subst (λ x. Tally P size n x) v (without (λ p. u.1 (subst P (sym same) p)) rest))
    (tells 0)

pub tally_ones : (P : ℕ → Type 0) (marks : List ℕ) → ((k : ℕ) → Tells (get_or marks k 0) (P k)) → Tally P (length marks) 0 (ones marks)
tally_ones P marks tells =
    tally_from P marks 0 (length marks) (omega arith)
    (λ k. let q : k ≡ 0 + k = omega arith in subst (λ x. Tells (get_or marks k 0) (P x)) q (tells k))
