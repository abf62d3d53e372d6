-- Levels and positions in their order. Assumes nothing.
use Rattle.std.proofs.Common.{◌≡◌, ℕ, ◌<◌, ◌≤◌, true, ◌&&◌, ◌||◌, eqb, ltb, ◌⊎◌, sym, ap, ◌∙◌, inl, inr, ⊎_elim, arith}
use Rattle.std.proofs.lemmas.Bool.{cases_Bool, ltb-true, eqb-true, and_parts}
use Rattle.frontier.specs.Orders.{lexical}

-- a pair that comes before another has no greater first part, and where these are equal a lesser second
pub lexical_cases : (a b c d : ℕ) → lexical a b c d ≡ true → (a < c) ⊎ ((a ≡ c) × (b < d))
lexical_cases a b c d e =
    ⊎_elim
    (λ t. inl (ltb-true a c t))
    (λ f. let p = and_parts (eqb a c) (ltb b d) (let z : (ltb a c || (eqb a c && ltb b d)) ≡ (eqb a c && ltb b d) = ap (λ x. x || (eqb a c && ltb b d)) f in sym z ∙ e) in
    inr (eqb-true a c p.0, ltb-true b d p.1))
    (cases_Bool (ltb a c))

pub lexical_low : (a b c d : ℕ) → lexical a b c d ≡ true → a ≤ c
lexical_low a b c d e = ⊎_elim (λ l. omega arith) (λ p. omega (arith, p.0)) (lexical_cases a b c d e)

pub lexical_apart : (a b : ℕ) → lexical a b a b ≡ true → ⊥
lexical_apart a b e = ⊎_elim (λ l. omega arith) (λ p. omega (arith, p.1)) (lexical_cases a b a b e)
