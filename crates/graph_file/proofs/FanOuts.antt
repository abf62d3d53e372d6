-- Counting ids by their first byte. Assumes nothing.
use Rattle.std.proofs.Common.{◌≡◌, ℕ, zero, suc, ◌+◌, ◌-◌, ◌*◌, ◌<◌, ◌≤◌, Bool, true, leb, ltb, List, [], ◌∷◌, ◌++◌, length, get_or, take, drop, sym, refl, ap, ◌∙◌, subst, ap₂, ⊎_elim, arith}
use Rattle.std.specs.List.{range_with_len, flat_map, prefix_len}
use Rattle.std.proofs.lemmas.List.FromFn.{map-range_with_len_more, length-range_with_len}
use Rattle.std.proofs.lemmas.List.Sums.{prefix_len-le-length, prefix_len_passes, prefix_len_stops}
use Rattle.std.proofs.lemmas.List.{map-id, length-drop, get_or-drop, take_rest}
use Rattle.std.proofs.lemmas.Bool.{cases_lt, leb-true, leb-false, le-leb, lt-leb, ltb-true, eqb-true, or_cases, and_parts, cases_eq, both_ways, cond-true, cond-false}
use Rattle.labels.specs.declared.kind.LabelKind.{Ghosts}
use Rattle.history.specs.declared.graph.CommitGraph.{CommitGraph}
use Rattle.history.specs.History.{Commit}
use Rattle.history.specs.Ids.{precedes}
use Rattle.history.specs.Tables.{row_of}
use Rattle.graph_file.specs.Layout.{fan_out, fan_out_bytes}
use Rattle.graph_file.specs.declared.output.Output.{Output}
use Rattle.graph_file.specs.Outputs.{Puts}
use Rattle.graph_file.specs.Placing.{placed, first_at, Low, listed, Filed, ids_of}
use Rattle.graph_file.specs.Words.{word}
use Rattle.graph_file.proofs.Filing.{filed_id, ids_length, ids_rising}
use Rattle.graph_file.proofs.Sources.{length_listed}
use Rattle.graph_file.proofs.Placed.{puts_more, length_joined}

-- an id that comes later does not begin with a lower byte
pub first_rises : (xs ys : List ℕ) → precedes xs ys ≡ true → get_or xs 0 0 ≤ get_or ys 0 0
first_rises [] [] p = omega arith
first_rises [] (y ∷ ys) p = omega arith
first_rises (x ∷ xs) [] p = absurd (both_ways _ refl p)
first_rises (x ∷ xs) (y ∷ ys) p =
    ⊎_elim
    (λ (a : ltb x y ≡ true). omega (arith, ltb-true x y a))
    (λ a. omega (arith, eqb-true x y (and_parts _ _ a).0))
    (or_cases _ _ p)

fan_out_split : (ids : List (List ℕ)) (byte n : ℕ) → n ≤ length ids → Low ids n byte → ((i : ℕ) → n ≤ i → i < length ids → byte < first_at ids i) → fan_out ids byte ≡ n
fan_out_split [] byte n le low high = omega arith
fan_out_split (id ∷ ids) byte zero le low high =
    ap₂ (λ x y. x + y) (cond-false _ 1 0 (lt-leb (get_or id 0 0) byte (high 0 (omega arith) (omega arith))))
    (fan_out_split ids byte 0 (omega arith) (λ i lt. absurd (omega arith)) (λ i l lt. high (suc i) (omega arith) (omega arith)))
fan_out_split (id ∷ ids) byte (suc n) le low high =
    ap₂ (λ x y. x + y) (cond-true _ 1 0 (le-leb (get_or id 0 0) byte (low 0 (omega arith))))
    (fan_out_split ids byte n (omega arith) (λ i lt. low (suc i) (omega arith)) (λ i l lt. high (suc i) (omega arith) (omega arith)))
    ∙ (let z : 1 + n ≡ suc n = omega arith in z)

-- the ids from a place on that begin with the byte or a lower one, by what is read of each
counted_while : (ids : List (List ℕ)) (ns : List ℕ) (first : ℕ → ℕ) (from byte n : ℕ) → length ns ≡ length ids → from ≤ length ns →
    ((i : ℕ) → i < length ids → first_at ids i ≡ first (get_or ns i 0)) → ((i j : ℕ) → i < j → j < length ids → precedes (get_or ids i []) (get_or ids j []) ≡ true) →
    n ≡ from + prefix_len (λ k. leb (first k) byte) (drop from ns) → Low ids from byte → Low ids n byte × (n ≡ fan_out ids byte)
unfolding fan_out_split
counted_while ids ns first from byte n long le each rising is low =
    let p : ℕ → Bool = λ k. leb (first k) byte in
    let more = prefix_len p (drop from ns) in
    let short = prefix_len-le-length p (drop from ns) in
    let rest = length-drop from ns in
    let lower : (i : ℕ) → i < n → first_at ids i ≤ byte = λ i lt.
    ⊎_elim (λ l. low i l) (λ l.
    let k = i - from in
    let same : get_or (drop from ns) k 0 ≡ get_or ns i 0 = get_or-drop from ns k 0 ∙ ap (λ j. get_or ns j 0) (let z : from + k ≡ i = omega arith in z) in
    omega (arith, each i (omega arith), ap first same, leb-true (first (get_or (drop from ns) k 0)) byte (prefix_len_passes p (drop from ns) k 0 (omega arith))))
    (cases_lt i from) in
    let above : n < length ids → byte < first_at ids n = λ lt.
    let same : get_or (drop from ns) more 0 ≡ get_or ns n 0 = get_or-drop from ns more 0 ∙ ap (λ j. get_or ns j 0) (sym is) in
    omega (arith, each n lt, ap first same, leb-false (first (get_or (drop from ns) more 0)) byte (prefix_len_stops p (drop from ns) 0 (omega arith))) in (
      lower,
      sym (fan_out_split ids byte n (omega arith) lower (λ i l li.
          ⊎_elim
          (λ e. subst (λ j. byte < first_at ids j) (sym e) (above (omega arith)))
          (λ ne. omega (arith, above (omega arith), first_rises (get_or ids n []) (get_or ids i []) (rising n i (omega arith) li)))
          (cases_eq i n))),
    )

low_next : (ids : List (List ℕ)) (byte n : ℕ) → Low ids n byte → Low ids n (byte + 1)
low_next ids byte n low i lt = omega (arith, low i lt)

module _ (ids : List (List ℕ)) (o p : Output) (byte : ℕ) where
  fans_grow : (q : Output) (count : ℕ) → Puts o p (flat_map (λ i. word (fan_out ids i)) (range_with_len 0 byte)) → p.at ≡ o.at + 4 * byte → count ≡ fan_out ids byte →
      Puts p q (word count) → o.at ≤ length o.bytes.now → Puts o q (flat_map (λ i. word (fan_out ids i)) (range_with_len 0 (byte + 1)))
  fans_grow q count a here is b le =
      let f : ℕ → List ℕ = λ i. word (fan_out ids i) in
      let long = length_joined f 4 0 (range_with_len 0 byte) (λ _ _. refl) in
      let next : range_with_len 0 (byte + 1) ≡ range_with_len 0 byte ++ (byte ∷ []) =
      sym (map-id (range_with_len 0 (byte + 1))) ∙ map-range_with_len_more (λ x. x) 0 byte byte (omega arith) ∙ ap (λ s. s ++ (byte ∷ [])) (map-id (range_with_len 0 byte)) in
      puts_more f o p q (range_with_len 0 byte) byte a (omega (arith, long, ap (λ n. 4 * n) (length-range_with_len 0 byte))) (b ∙ ap (λ c. placed p.bytes.now p.at (word c)) is) le
      ∙ ap (λ s. placed o.bytes.now o.at (flat_map f s)) (sym next)

  pub fans_end : byte ≡ 256 → Puts o p (flat_map (λ i. word (fan_out ids i)) (range_with_len 0 byte)) → Puts o p (fan_out_bytes ids)
  fans_end full a = a ∙ ap (λ n. placed o.bytes.now o.at (flat_map (λ i. word (fan_out ids i)) (range_with_len 0 n))) full

-- one byte more, counted from where the byte before ended
module _ {K L : Type 0} {kind : Ghosts K L} (g : CommitGraph K L kind) (ns : List ℕ) (all : ns ≡ listed g) (o p q : Output) (byte before more : ℕ) (le : before ≤ g.count)
    (counted : more ≡ prefix_len (λ n. leb (get_or (row_of g.rows.now n).id.bytes 0 0) byte) (take (length ns - before) (drop before ns)))
    (here : p.at ≡ o.at + 4 * byte) (put : Puts p q (word (before + more))) (room : o.at ≤ length o.bytes.now) where
  pub fans_next : (h : List Commit) (order : List ℕ) (s : Filed g h order) →
      Low (ids_of h order) before byte × Puts o p (flat_map (λ i. word (fan_out (ids_of h order) i)) (range_with_len 0 byte)) →
      Low (ids_of h order) (before + more) (byte + 1) × Puts o q (flat_map (λ i. word (fan_out (ids_of h order) i)) (range_with_len 0 (byte + 1)))
  unfolding counted_while low_next fans_grow
  fans_next h order s now =
      let ids = ids_of h order in
      let first : ℕ → ℕ = λ n. get_or (row_of g.rows.now n).id.bytes 0 0 in
      let passes : ℕ → Bool = λ n. leb (first n) byte in
      let long : length ns ≡ g.count = ap length all ∙ length_listed g in
      let same = ids_length g h order s in
      let found = counted_while ids ns first before byte (before + more) (omega (arith, long, same)) (omega (arith, long, le))
      (λ i lt. sym (ap (λ id. get_or id 0 0) (filed_id g h order s ns all i (omega (arith, lt, same, long))))) (ids_rising h order s.ordered)
      (ap (λ k. before + k) (counted ∙ ap (prefix_len passes) (take_rest ns before))) now.0 in
      (low_next ids byte (before + more) found.0, fans_grow ids o p byte q (before + more) now.1 here found.1 put room)
