-- Facts on plain lists of numbers. Assumes nothing.
use Rattle.std.proofs.Common.{◌≡◌, ℕ, ◌+◌, ◌-◌, ◌<◌, ◌≤◌, List, ◌++◌, map, length, get_or, take, drop, set, sym, refl, ap, ◌∙◌, ⊎_elim, length-append, length-drop, arith}
use borrow.Rule.Slice.PartMut.{put_mid}
use Rattle.std.specs.List.{between, RotatedRight}
use Rattle.std.proofs.lemmas.Bool.{cases_eq, cases_lt, lt-ltb, le-ltb, eq-eqb, ne_eqb, cond-true, cond-false}
use Rattle.std.proofs.lemmas.List.{get_or-map, get_or-take, length-take-le, length-set, drop-set-lt, get_or-set_same, get_or-set_other, get_or_append_left, get_or-append_right}
use Rattle.std.proofs.lemmas.List.Edits.{length-between, get_or-between}
use Rattle.std.proofs.lemmas.Slice.{drop-put_mid}
use Rattle.history.specs.Order.{shifted}

-- an entry of a table, read through a part that is mapped
pub get_d_map_take : {X Y : Type 0} (f : X → Y) (xs : List X) (n k : ℕ) (d : X) (e : Y) → n ≤ length xs → k < n → get_or (map f (take n xs)) k e ≡ f (get_or xs k d)
get_d_map_take f xs n k d e le lt =
    let long = length-take-le n xs le in
    get_or-map f (take n xs) k d e (omega arith) ∙ ap f (get_or-take n xs k d lt)

module _ (old : List ℕ) (place x : ℕ) where
  pub shifted_below : (k : ℕ) → k < place → shifted old place x k ≡ get_or old k 0
  shifted_below k lt = cond-true _ _ _ (lt-ltb k place lt)

  pub shifted_at : shifted old place x place ≡ x
  shifted_at = cond-false _ _ _ (le-ltb place place (omega arith)) ∙ cond-true _ _ _ (eq-eqb place place refl)

  pub shifted_above : (k : ℕ) → place ≤ k → shifted old place x (k + 1) ≡ get_or old k 0
  shifted_above k le =
      cond-false _ _ _ (le-ltb (k + 1) place (omega arith)) ∙ cond-false _ _ _ (ne_eqb (k + 1) place (λ e. omega arith))
      ∙ ap (λ i. get_or old i 0) (let e : k + 1 - 1 ≡ k = omega arith in e)

-- the order by id once the number behind its used part has been turned round to the place
module _ (order : List ℕ) (place n : ℕ) (among : place ≤ n) (room : n < length order) (turned : List ℕ)
    (is : RotatedRight (between place (n + 1) (set order n n)) turned (length (between place (n + 1) (set order n n))) 1) (kept : length turned ≡ length (between place (n + 1) (set order n n))) where
  abbrev pub turned_order : List ℕ
  turned_order = put_mid place (n + 1 - place) (set order n n) turned

  long : length (set order n n) ≡ length order
  long = length-set order n n

  length_part : length (between place (n + 1) (set order n n)) ≡ n + 1 - place
  length_part = length-between (set order n n) place (n + 1) (omega (arith, long))

  same : length turned ≡ n + 1 - place
  same = kept ∙ length_part

  in_front : (k : ℕ) → k < place → get_or turned_order k 0 ≡ get_or order k 0
  in_front k lt =
      get_or_append_left (take place (set order n n)) _ 0 k (omega (arith, length-take-le place (set order n n) (omega (arith, long))))
      ∙ get_or-take place (set order n n) k 0 lt ∙ get_or-set_other order n k n 0 (λ e. omega arith)

  in_part : (k : ℕ) → place ≤ k → k < n + 1 → get_or turned_order k 0 ≡ get_or turned (k - place) 0
  in_part k le lt =
      get_or-append_right (take place (set order n n)) _ place k 0 (length-take-le place (set order n n) (omega (arith, long))) le
      ∙ get_or_append_left turned _ 0 (k - place) (omega (arith, same))

  pub turned_moved : (k : ℕ) → k < n + 1 → get_or turned_order k 0 ≡ shifted order place n k
  turned_moved k lt =
      ⊎_elim
      (λ l. in_front k l ∙ sym (shifted_below order place n k l))
      (λ ge.
      in_part k ge lt
      ∙ ⊎_elim
      (λ e. is.0 (k - place) 0 (omega arith) ∙ get_or-between (set order n n) place (n + 1) _ 0 (omega (arith, length_part))
      ∙ ap (λ i. get_or (set order n n) i 0) (let z : place + (length (between place (n + 1) (set order n n)) - 1 + (k - place)) ≡ n = omega (arith, length_part) in z)
      ∙ get_or-set_same order n n 0 room
      ∙ sym (ap (shifted order place n) e ∙ shifted_at order place n))
      (λ ne. is.1 (k - place) 0 (omega arith) (omega (arith, length_part)) ∙ get_or-between (set order n n) place (n + 1) (k - place - 1) 0 (omega arith)
      ∙ get_or-set_other order n (place + (k - place - 1)) n 0 (λ e. omega arith)
      ∙ sym (ap (shifted order place n) (let z : k ≡ place + (k - place - 1) + 1 = omega arith in z) ∙ shifted_above order place n (place + (k - place - 1)) (omega arith)))
      (cases_eq k place))
      (cases_lt k place)

  pub turned_rest : drop (n + 1) turned_order ≡ drop (n + 1) order
  turned_rest =
      drop-put_mid place (n + 1 - place) (set order n n) turned (n + 1) (omega arith) (omega (arith, long)) same
      ∙ drop-set-lt (n + 1) order n n (omega arith)

  pub turned_long : length turned_order ≡ length order
  turned_long =
      let o = set order n n in
      let post = drop (n + 1 - place) (drop place o) in
      omega (arith, long, same, length-append (take place o) (turned ++ post), length-append turned post, length-take-le place o (omega (arith, long)), length-drop (n + 1 - place) (drop place o), length-drop place o)
