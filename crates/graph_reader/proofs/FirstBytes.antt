-- Counts by first byte, and their sums. Assumes nothing.
use Rattle.std.proofs.Common.{◌≡◌, ℕ, zero, suc, ◌+◌, ◌-◌, ◌*◌, ◌<◌, ◌≤◌, cond, eqb, leb, List, [], ◌∷◌, ◌++◌, map, length, get_or, take, drop, set, replicate, sym, refl, ap, ◌∙◌, subst, ⊎_elim, arith}
use Rattle.std.proofs.lemmas.List.{drop-drop, take_more, length-set, get_or-set_same, get_or-set_other, get_or-replicate, get_or_past, length-replicate}
use Rattle.std.proofs.lemmas.Bool.Decides.{nat_tests}
use Rattle.std.specs.List.{range_with_len}
use Rattle.std.specs.Simd.{first_chunks}
use Rattle.std.proofs.lemmas.Bool.{cases_eq, cases_lt, cond-true, cond-false, eq-eqb, ne_eqb}
use Rattle.graph_reader.specs.ChunkFaults.{begun_by}
use Rattle.graph_reader.specs.Bytes.{id_at}
use Rattle.graph_file.specs.Layout.{fan_out}

-- the ids of a chunk, 20 bytes each
pub chunks_from : (chunk : List ℕ) (a n : ℕ) → first_chunks 20 n (drop (20 * a) chunk) ≡ map (id_at chunk) (range_with_len a n)
chunks_from chunk a zero = refl
chunks_from chunk a (suc n) =
    ap (λ xs. id_at chunk a ∷ xs)
    (ap (first_chunks 20 n) (drop-drop 20 (20 * a) chunk ∙ ap (λ k. drop k chunk) (let z : 20 * a + 20 ≡ 20 * (a + 1) = omega arith in z)) ∙ chunks_from chunk (a + 1) n)

pub begun_push : (ids : List (List ℕ)) (id : List ℕ) (i : ℕ) → begun_by (ids ++ (id ∷ [])) i ≡ begun_by ids i + cond (eqb (get_or id 0 0) i) 1 0
begun_push [] id i = omega arith
begun_push (x ∷ ids) id i = omega (arith, begun_push ids id i)

one_step : (f i : ℕ) → cond (leb f (i + 1)) 1 0 ≡ cond (leb f i) 1 0 + cond (eqb f (i + 1)) 1 0
one_step f i = grind (arith, nat_tests)

zero_step : (f : ℕ) → ◌≡◌ {A = ℕ} (cond (leb f 0) 1 0) (cond (eqb f 0) 1 0)
zero_step f = grind (arith, nat_tests)

-- up to the next byte there are those up to this one, and those that begin with the next
pub fan_out_next : (ids : List (List ℕ)) (i : ℕ) → fan_out ids (i + 1) ≡ fan_out ids i + begun_by ids (i + 1)
fan_out_next [] i = omega arith
fan_out_next (id ∷ ids) i = omega (arith, fan_out_next ids i, one_step (get_or id 0 0) i)

pub fan_out_first : (ids : List (List ℕ)) → fan_out ids 0 ≡ begun_by ids 0
fan_out_first [] = refl
fan_out_first (id ∷ ids) = omega (arith, fan_out_first ids, zero_step (get_or id 0 0))

-- one id more is counted
module _ (ids : List (List ℕ)) (counts : List ℕ) (p : ℕ) (held : p < length ids) (long : length counts ≡ 256) (first : ℕ) (is : get_or (get_or ids p []) 0 0 ≡ first) (low : first < 256)
    (counted : (i : ℕ) → i < 256 → get_or counts i 0 ≡ begun_by (take p ids) i) where
  pub tally_more : (i : ℕ) → i < 256 → get_or (set counts first (get_or counts first 0 + 1)) i 0 ≡ begun_by (take (p + 1) ids) i
  tally_more i lt =
      let next : begun_by (take (p + 1) ids) i ≡ begun_by (take p ids) i + cond (eqb first i) 1 0 =
      ap (λ l. begun_by l i) (take_more ids p [] held) ∙ begun_push (take p ids) (get_or ids p []) i
      ∙ ap (λ f. begun_by (take p ids) i + cond (eqb f i) 1 0) is in
      ⊎_elim
      (λ e.
      let one : ◌≡◌ {A = ℕ} (cond (eqb first i) 1 0) 1 = cond-true _ _ _ (eq-eqb first i (sym e)) in
      let here = get_or-set_same counts first (get_or counts first 0 + 1) 0 (omega arith) in
      omega (arith, ap (λ k. get_or (set counts first (get_or counts first 0 + 1)) k 0) e, here, counted i lt, ap (λ k. get_or counts k 0) e, next, one))
      (λ ne.
      let none : ◌≡◌ {A = ℕ} (cond (eqb first i) 1 0) 0 = cond-false _ _ _ (ne_eqb first i (λ e. ne (sym e))) in
      omega (arith, get_or-set_other counts first i (get_or counts first 0 + 1) 0 ne, counted i lt, next, none))
      (cases_eq i first)

  pub tally_most : ((i : ℕ) → get_or counts i 0 ≤ p) → (i : ℕ) → get_or (set counts first (get_or counts first 0 + 1)) i 0 ≤ p + 1
  tally_most most i =
      ⊎_elim
      (λ e. omega (arith, ap (λ k. get_or (set counts first (get_or counts first 0 + 1)) k 0) e, get_or-set_same counts first (get_or counts first 0 + 1) 0 (omega arith), most first))
      (λ ne. omega (arith, get_or-set_other counts first i (get_or counts first 0 + 1) 0 ne, most i))
      (cases_eq i first)

pub none_counted : (i : ℕ) → ◌≡◌ {A = ℕ} (get_or (replicate 256 0) i 0) 0
none_counted i =
    ⊎_elim
    (λ lt. get_or-replicate 256 i 0 0 lt)
    (λ ge. get_or_past (replicate 256 0) i 0 (omega (arith, length-replicate {A = ℕ} 256 0)))
    (cases_lt i 256)

-- counts that are summed below i, and as they were from i on
pub record Summed (old counts : List ℕ) (i : ℕ) : Type 0 where
  pub long : length counts ≡ 256
  pub sums : (ids : List (List ℕ)) → ((j : ℕ) → j < 256 → get_or old j 0 ≡ begun_by ids j) → (j : ℕ) → j < i → get_or counts j 0 ≡ fan_out ids j
  pub small : (j : ℕ) → j < i → get_or counts j 0 ≤ 65536 * (j + 1)
  pub rest : (j : ℕ) → i ≤ j → get_or counts j 0 ≡ get_or old j 0

module _ (old : List ℕ) (long : length old ≡ 256) (most : (j : ℕ) → j < 256 → get_or old j 0 ≤ 65536) where
  pub summed_one : Summed old old 1
  summed_one = record {
    long = long;
    sums = λ ids counted j lt. let e : j ≡ 0 = omega arith in ap (λ k. get_or old k 0) e ∙ counted 0 (omega arith) ∙ sym (fan_out_first ids) ∙ ap (fan_out ids) (sym e);
    small = λ j lt. omega (arith, most j (omega arith));
    rest = λ j le. refl;
  }

  pub summed_more : (counts : List ℕ) (i : ℕ) → 1 ≤ i → i < 256 → Summed old counts i → Summed old (set counts i (get_or counts i 0 + get_or counts (i - 1) 0)) (i + 1)
  summed_more counts i pos lt s =
      let v = get_or counts i 0 + get_or counts (i - 1) 0 in
      let here = get_or-set_same counts i v 0 (omega (arith, s.long)) in
      let other : (j : ℕ) → (j ≡ i → ⊥) → get_or (set counts i v) j 0 ≡ get_or counts j 0 = λ j ne. get_or-set_other counts i j v 0 ne in
      let was = s.rest i (omega arith) in
      record {
        long = length-set counts i v ∙ s.long;
        sums = λ ids counted j l.
            ⊎_elim
            (λ e.
            let next : fan_out ids i ≡ fan_out ids (i - 1) + begun_by ids i =
            subst (λ k. fan_out ids k ≡ fan_out ids (i - 1) + begun_by ids k) (let z : (i - 1) + 1 ≡ i = omega arith in z) (fan_out_next ids (i - 1)) in
            ap (λ k. get_or (set counts i v) k 0) e
            ∙ (let z : get_or (set counts i v) i 0 ≡ fan_out ids i = omega (arith, here, was, counted i lt, s.sums ids counted (i - 1) (omega arith), next) in z)
            ∙ ap (fan_out ids) (sym e))
            (λ ne. other j ne ∙ s.sums ids counted j (omega arith))
            (cases_eq j i);
        small = λ j l.
            ⊎_elim
            (λ e. omega (arith, ap (λ k. get_or (set counts i v) k 0) e, here, was, most i lt, s.small (i - 1) (omega arith)))
            (λ ne. omega (arith, other j ne, s.small j (omega arith)))
            (cases_eq j i);
        rest = λ j le. other j (λ e. omega arith) ∙ s.rest j (omega arith);
      }
