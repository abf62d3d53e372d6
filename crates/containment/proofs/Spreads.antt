-- A list of visits, one after another. Assumes nothing.
use Rattle.std.proofs.Common.{◌≡◌, ℕ, ◌+◌, ◌<◌, ◌≤◌, true, false, cond, eqb, ◌⊎◌, List, [], ◌∷◌, ◌++◌, length, get_or, take, replicate, set, count_by, sym, refl, ap, ◌∙◌, subst, inl, inr, ⊎_elim, arith}
use Rattle.std.proofs.lemmas.Bool.{cases_lt, cases_eq, and_parts, eqb-true, leb-true, eq-eqb, le-leb, and_from, both_ways, cond-true}
use Rattle.std.proofs.lemmas.List.{length-set, length_push, length-take-le, get_or-set_same, get_or-set_other, get_or-replicate, length-replicate, get_or_append_left, get_or_push, get_or_past, take_all, take_more}
use Rattle.std.proofs.lemmas.List.Sorted.{IsPermutation-refl}
use Rattle.std.proofs.lemmas.List.Sums.{sum_by-set}
use Rattle.std.specs.List.Sorted.{IsPermutation}
use Rattle.frontier.specs.declared.elements.ByNumber.{ByNumber}
use Rattle.frontier.specs.Heaps.{Among, Distinct}
use Rattle.frontier.proofs.Few.{distinct_few}
use Rattle.frontier.proofs.Members.{entry_among, among_more, among_less, distinct_more}
use Rattle.labels.specs.declared.kind.LabelKind.{Ghosts}
use Rattle.containment.specs.declared.walk.Walk.{Walk}
use Rattle.containment.specs.Questions.{open_to, wanted_by}
use Rattle.containment.specs.Visits.{Joined, Visited, InQueue, Listed, left, Spread}
use Rattle.containment.specs.Waiting.{numbered}

listed_more : (xs : List ℕ) (x k : ℕ) → Listed xs k → Listed (xs ++ (x ∷ [])) k
listed_more xs x k w = (w.0, omega (arith, w.1, length_push xs x), get_or_append_left xs (x ∷ []) 0 w.0 w.1 ∙ w.2)

listed_last : (xs : List ℕ) (x : ℕ) → Listed (xs ++ (x ∷ [])) x
listed_last xs x = (length xs, omega (arith, length_push xs x), get_or_push xs x 0 (length xs) refl)

listed_cases : (xs : List ℕ) (x k : ℕ) → Listed (xs ++ (x ∷ [])) k → Listed xs k ⊎ (k ≡ x)
listed_cases xs x k w =
    ⊎_elim
    (λ lt. inl (w.0, lt, sym (get_or_append_left xs (x ∷ []) 0 w.0 lt) ∙ w.2))
    (λ ge. let e : length xs ≡ w.0 = omega (arith, w.1, length_push xs x) in inr (sym w.2 ∙ get_or_push xs x 0 w.0 e))
    (cases_lt w.0 (length xs))

-- a mark lies within the marks
pub mark_within : (marks : List ℕ) (k : ℕ) → get_or marks k 0 ≡ 1 → k < length marks
mark_within marks k e = ⊎_elim (λ lt. lt) (λ ge. absurd (omega (arith, e, get_or_past marks k 0 ge))) (cases_lt k (length marks))

-- marks of 0 and 1, of which one is set to 1, or which are all clear
pub bits_set : (marks : List ℕ) (p : ℕ) → ((k : ℕ) → get_or marks k 0 ≤ 1) → (k : ℕ) → get_or (set marks p 1) k 0 ≤ 1
bits_set marks p bits k = ⊎_elim (λ lt. ⊎_elim (λ same. omega (arith, ap (λ x. get_or (set marks p 1) x 0) same, get_or-set_same marks p 1 0 (omega arith))) (λ ne. omega (arith, get_or-set_other marks p k 1 0 ne, bits k)) (cases_eq k p)) (λ ge. omega (arith, get_or_past (set marks p 1) k 0 (omega (arith, length-set marks p 1)))) (cases_lt k (length marks))

pub bits_clear : (marks : List ℕ) (n : ℕ) → marks ≡ replicate n 0 → (k : ℕ) → get_or marks k 0 ≤ 1
bits_clear marks n e k =
    ⊎_elim
    (λ lt. omega (arith, ap (λ l. get_or l k 0) e, get_or-replicate {A = ℕ} n k 0 0 lt))
    (λ ge. omega (arith, get_or_past marks k 0 (omega (arith, ap length e, length-replicate {A = ℕ} n 0))))
    (cases_lt k n)

-- what a visit leaves keeps what a walk keeps
module _ {K L : Type 0} {kind : Ghosts K L} (w : Walk K L kind) where
  -- what waits has the mark 1
  pub waiting_marked : (x : ByNumber) → Among x w.queue.entries.now w.queue.count → get_or w.marks.now x.number 0 ≡ 1
  waiting_marked x a = subst (λ y. get_or w.marks.now y.number 0 ≡ 1) (a.2 (numbered 0)) (w.marked a.0 a.1)

  module _ (p : ℕ) (lt : p < length w.marks.now) (off : get_or w.marks.now p 0 ≡ 0) where
    fresh : InQueue p w → ⊥
    fresh a = omega (arith, off, waiting_marked (numbered p) a)

    -- a commit without a mark finds room
    pub room_left : w.queue.count < length w.queue.entries.now
    room_left =
        let c = w.queue.count in
        let entries = w.queue.entries.now in
        let q = numbered p ∷ take c entries in
        let long : length q ≡ c + 1 = omega (arith, length-take-le c entries w.queue.within) in
        let s : IsPermutation q (take (c + 1) q) = subst (IsPermutation q) (sym (take_all (c + 1) q (omega arith))) (IsPermutation-refl q) in
        let low : (k : ℕ) → k < c + 1 → (get_or q k (numbered 0)).number < length w.marks.now =
        λ k l.
        ⊎_elim
        (λ e. subst (λ x. x.number < length w.marks.now) (sym e) lt)
        (λ a. mark_within w.marks.now _ (waiting_marked _ a))
        (among_less (numbered p) entries q c (c + 1) w.queue.within (omega arith) s _ (entry_among q (c + 1) k (numbered 0) (omega arith) l)) in
        let few = distinct_few (λ x. x.number) q (c + 1) (length w.marks.now) (numbered 0) low (λ j k a b e. ap numbered e)
        (distinct_more (numbered p) entries q c (c + 1) w.queue.within (omega arith) s w.distinct fresh) in
        omega (arith, w.room, w.sized)

    module _ (q : List ByNumber) (c : ℕ) (counted : c ≡ w.queue.count + 1) (long : length q ≡ length w.queue.entries.now)
        (holds : IsPermutation (numbered p ∷ take w.queue.count w.queue.entries.now) (take c q)) where
      in_q : c ≤ length q
      in_q = omega (arith, room_left, long, counted)

      pub marked_join : (i : ℕ) → i < c → get_or (set w.marks.now p 1) (get_or q i (numbered 0)).number 0 ≡ 1
      marked_join i l =
          let x = get_or q i (numbered 0) in
          let here = get_or-set_same w.marks.now p 1 0 lt in
          ⊎_elim
          (λ e. ap (λ y. get_or (set w.marks.now p 1) y.number 0) e ∙ here)
          (λ a.
          ⊎_elim
          (λ same. ap (λ k. get_or (set w.marks.now p 1) k 0) same ∙ here)
          (λ ne. get_or-set_other w.marks.now p x.number 1 0 ne ∙ waiting_marked x a)
          (cases_eq x.number p))
          (among_less (numbered p) w.queue.entries.now q w.queue.count c w.queue.within in_q holds x (entry_among q c i (numbered 0) in_q l))

      pub distinct_join : Distinct q c
      distinct_join = distinct_more (numbered p) w.queue.entries.now q w.queue.count c w.queue.within in_q holds w.distinct fresh

module _ {K L : Type 0} {kind : Ghosts K L} where
  module _ (xs : List ℕ) (v w : Walk K L kind) (s : Spread xs v w) (p : ℕ) where
    -- a commit that was not wanted
    spread_pass : wanted_by v.question.now p (get_or w.marks.now p 0) ≡ false → Spread (xs ++ (p ∷ [])) v w
    spread_pass no_one = record {
      question = s.question;
      long = s.long;
      only = λ k. ⊎_elim inl (λ u. inr (u.0, listed_more xs p k u.1, u.2, u.3)) (s.only k);
      all = λ k l o le.
          ⊎_elim
          (λ i. s.all k i o le)
          (λ e.
          ⊎_elim
          (λ z.
          absurd (both_ways _ no_one
          (and_from _ _ (eq-eqb (get_or w.marks.now p 0) 0 (subst (λ x. get_or w.marks.now x 0 ≡ 0) e z))
          (and_from _ _ (le-leb v.question.now.target p (subst (λ x. v.question.now.target ≤ x) e le)) (subst (λ x. open_to v.question.now x ≡ true) e o)))))
          (λ nz. omega (arith, nz, w.bits k))
          (cases_eq (get_or w.marks.now k 0) 0))
          (listed_cases xs p k l);
      joins = s.joins;
      stays = s.stays;
      fewer = s.fewer;
    }

    module _ (lt : p < length w.marks.now) (yes_one : wanted_by v.question.now p (get_or w.marks.now p 0) ≡ true) (w' : Walk K L kind) (j : Joined p w w') where
      off : get_or w.marks.now p 0 ≡ 0
      off = eqb-true _ _ (and_parts _ _ yes_one).0

      here : get_or w'.marks.now p 0 ≡ 1
      here = ap (λ l. get_or l p 0) j.marked ∙ get_or-set_same w.marks.now p 1 0 lt

      here_at : (k : ℕ) → k ≡ p → get_or w'.marks.now k 0 ≡ 1
      here_at k same = ap (λ x. get_or w'.marks.now x 0) same ∙ here

      other : (k : ℕ) → (k ≡ p → ⊥) → get_or w'.marks.now k 0 ≡ get_or w.marks.now k 0
      other k ne = ap (λ l. get_or l k 0) j.marked ∙ get_or-set_other w.marks.now p k 1 0 ne

      still : (k : ℕ) → get_or w.marks.now k 0 ≡ 1 → get_or w'.marks.now k 0 ≡ 1
      still k e = ⊎_elim (here_at k) (λ ne. other k ne ∙ e) (cases_eq k p)

      among : (k : ℕ) → (numbered k ≡ numbered p) ⊎ InQueue k w → InQueue k w'
      among k =
          among_more (numbered p) w.queue.entries.now w'.queue.entries.now w.queue.count w'.queue.count w.queue.within w'.queue.within j.holds (numbered k)

      fewer_join : left w' ≡ left w
      fewer_join =
          let e : count_by (λ x. eqb x 0) (set w.marks.now p 1) + cond (eqb (get_or w.marks.now p 0) 0) 1 0 ≡ count_by (λ x. eqb x 0) w.marks.now + 0 =
          sum_by-set (λ x. cond (eqb x 0) 1 0) w.marks.now p 1 0 lt in
          let one : cond {A = ℕ} (eqb (get_or w.marks.now p 0) 0) 1 0 ≡ 1 = cond-true (eqb (get_or w.marks.now p 0) 0) 1 0 (and_parts _ _ yes_one).0 in
          let is = ap (count_by (λ x. eqb x 0)) j.marked in
          omega (arith, is, j.counted)

      spread_join : Spread (xs ++ (p ∷ [])) v w'
      spread_join = record {
        question = j.question ∙ s.question;
        long = ap length j.marked ∙ length-set w.marks.now p 1 ∙ s.long;
        only = λ k.
            ⊎_elim
            (λ same.
            let both = and_parts _ _ (and_parts (eqb (get_or w.marks.now p 0) 0) _ yes_one).1 in
            inr (
              here_at k same,
              subst (Listed (xs ++ (p ∷ []))) (sym same) (listed_last xs p),
              subst (λ x. open_to v.question.now x ≡ true) (sym same) both.1,
              subst (λ x. v.question.now.target ≤ x) (sym same) (leb-true v.question.now.target p both.0),
            ))
            (λ ne. ⊎_elim (λ u. inl (other k ne ∙ u)) (λ u. inr (other k ne ∙ u.0, listed_more xs p k u.1, u.2, u.3)) (s.only k))
            (cases_eq k p);
        all = λ k l o le. ⊎_elim (λ i. still k (s.all k i o le)) (here_at k) (listed_cases xs p k l);
        joins = λ k e.
            ⊎_elim
            (λ same. inr (among k (inl (ap numbered same))))
            (λ ne. ⊎_elim inl (λ a. inr (among k (inr a))) (s.joins k (sym (other k ne) ∙ e)))
            (cases_eq k p);
        stays = λ k a. among k (inr (s.stays k a));
        fewer = fewer_join ∙ s.fewer;
      }

    spread_more : (w' : Walk K L kind) → p < length w.marks.now → Visited p w w' → Spread (xs ++ (p ∷ [])) v w'
    spread_more w' lt is =
        ⊎_elim
        (λ u. spread_join lt (subst (λ t. wanted_by t.now p (get_or w.marks.now p 0) ≡ true) s.question u.0) w' u.1)
        (λ u. subst (Spread (xs ++ (p ∷ [])) v) (sym u.1) (spread_pass (subst (λ t. wanted_by t.now p (get_or w.marks.now p 0) ≡ false) s.question u.0)))
        is

  -- the loop over a list
  pub spread_step : (xs : List ℕ) (v w w' : Walk K L kind) (i : ℕ) → i < length xs → get_or xs i 0 < v.question.now.size →
      Spread (take i xs) v w → Visited (get_or xs i 0) w w' → Spread (take (i + 1) xs) v w'
  spread_step xs v w w' i lt within s is =
      subst (λ ys. Spread ys v w') (sym (take_more xs i 0 lt)) (spread_more (take i xs) v w s (get_or xs i 0) w' (omega (arith, s.long, v.sized)) is)
