-- A list of results that is filled from its front. Assumes nothing.
use Rattle.std.proofs.Common.{◌≡◌, ℕ, ◌+◌, List, [], ◌∷◌, ◌++◌, length, get_or, take, drop, set, sym, refl, ap, ◌∙◌, ap₂, ⊎_elim, arith}
use Rattle.std.proofs.lemmas.List.{append_assoc, take_all, take-append-le, drop_all, drop_more, set_at, set_past, length_push, length-take, length-append}
use Rattle.std.proofs.lemmas.Bool.{cases_lt}
use Rattle.ancestry.specs.Ancestry.{filled}

pub filled_none : (results : List ℕ) → results ≡ filled [] results
filled_none results = let e = take_all (length results) [] (omega arith) in ap (λ l. l ++ results) (sym e)

pub filled_more : (list results : List ℕ) (x : ℕ) → set (filled list results) (length list) x ≡ filled (list ++ (x ∷ [])) results
filled_more list results x =
    let n = length list in
    let long = length_push list x in
    ⊎_elim
    (λ lt.
    let front : take (length results) list ≡ list = take_all (length results) list (omega arith) in
    let back : drop n results ≡ get_or results n 0 ∷ drop (n + 1) results = drop_more results n 0 lt in
    ap (λ l. set l n x) (ap₂ (λ a b. a ++ b) front back) ∙ set_at list (get_or results n 0) (drop (n + 1) results) x n refl
    ∙ sym (append_assoc list (x ∷ []) (drop (n + 1) results))
    ∙ sym (ap₂ (λ a b. a ++ b) (take_all (length results) (list ++ (x ∷ [])) (omega arith)) (ap (λ k. drop k results) long)))
    (λ ge.
    let none = drop_all n results ge in
    let none' = drop_all (length (list ++ (x ∷ []))) results (omega arith) in
    let same : filled list results ≡ filled (list ++ (x ∷ [])) results =
    ap₂ (λ a b. a ++ b) (sym (take-append-le (length results) list (x ∷ []) ge)) (none ∙ sym none') in
    set_past (filled list results) n x
    (let size = length-append (take (length results) list) (drop n results) in
    let zero_rest = ap length none in
    omega (arith, size, zero_rest, length-take (length results) list))
    ∙ same)
    (cases_lt n (length results))
