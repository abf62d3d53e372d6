-- Marks and queue as paint is laid and commits are taken out. Assumes nothing.
use Rattle.std.proofs.Common.{◌≡◌, ℕ, ◌+◌, ◌-◌, ◌<◌, ◌≤◌, ◌⊎◌, List, ◌∷◌, length, get_or, take, set, sym, refl, ap, ◌∙◌, subst, inl, inr, ⊎_elim, arith}
use Rattle.std.specs.List.Sorted.{IsPermutation}
use Rattle.std.proofs.lemmas.List.{length-set, length-take-le, get_or-set_same, get_or-set_other, get_or-take}
use Rattle.std.proofs.lemmas.List.Sums.{sum_by-set, get_or-le-sum_by, count_by-le-length}
use Rattle.std.proofs.Math.Seq.{take-set-lt}
use Rattle.std.specs.List.{sum_by}
use Rattle.std.proofs.lemmas.Bool.{cases_eq, ltb-true}
use Rattle.frontier.specs.declared.elements.ByNumber.{ByNumber}
use Rattle.frontier.specs.Heaps.{Among, Distinct, TakenOut}
use Rattle.frontier.proofs.Few.{fresh_few}
use Rattle.frontier.proofs.Members.{distinct_none, entry_among, among_more, among_less, distinct_more, distinct_less, taken_gone}
use Rattle.ancestry.specs.declared.paint.Paint.{Paint}
use Rattle.ancestry.specs.declared.paint.Paint.TheVariants.{Clear}
use Rattle.ancestry.specs.Painting.{Tidy, paint_at, shows, waiting, higher}
use Rattle.ancestry.specs.Paints.{paint_of, byte_of}
use Rattle.ancestry.proofs.Bits.{byte_painted, paint_byte}
use Rattle.ancestry.proofs.Sums.{bears, sum_zero, sum_cut, bears_none, bears_it, bears_not}

-- a count, moved by one mark
abbrev pub Moves : (ℕ → ℕ) → ℕ → ℕ → ℕ → ℕ → Type 0
Moves f old new x y = new + f x ≡ old + f y

module _ (marks : List ℕ) (low number x y : ℕ) (was : get_or marks number 0 ≡ x) (under : number < low) (bound : low ≤ length marks) where
  counted : (f : ℕ → ℕ) (old new : ℕ) → old ≡ sum_by f (take low marks) → Moves f old new x y → new ≡ sum_by f (take low (set marks number y))
  counted f old new e moves =
      let long = length-take-le low marks bound in
      let here = get_or-take low marks number 0 under in
      let moved = sum_by-set f (take low marks) number y 0 (omega arith) in
      let same = ap (sum_by f) (take-set-lt low marks number y under) in
      omega (arith, moved, same, ap f (here ∙ was), e, moves)

-- the elements of the queue are told apart by their numbers
number_apart : (x y : ByNumber) → x.number ≡ y.number → x ≡ y
number_apart x y e = ap waiting e

module _ (marks : List ℕ) (queue : List ByNumber) (count low : ℕ) (bearing : List ℕ) (within : count ≤ length queue) (tidy : Tidy marks queue count low bearing) where
  pub entry_painted : (k : ℕ) → k < count → ((get_or queue k (waiting 0)).number < low) × (get_or marks (get_or queue k (waiting 0)).number 0 ≡ 0 → ⊥)
  entry_painted k lt =
      tidy.painted (get_or queue k (waiting 0)).number (entry_among queue count k (waiting 0) within lt)

  -- there is room for a commit that is clear
  pub room_for : (number : ℕ) → number < low → get_or marks number 0 ≡ 0 → count < low
  room_for number under clear =
      fresh_few (λ x. x.number) queue count low (waiting number) (waiting 0) under
      (λ k lt. (entry_painted k lt).0) (λ k lt e. (entry_painted k lt).1 (ap (λ n. get_or marks n 0) e ∙ clear))
      (λ j k _ _ e. number_apart _ _ e) tidy.distinct

  module _ (bearing' : List ℕ) (number x y : ℕ) (was : get_or marks number 0 ≡ x) (paints : y ≡ 0 → ⊥) (under : number < low)
      (moves : (v : ℕ) → 0 < v → Moves (bears v) (get_or bearing v 0) (get_or bearing' v 0) x y) where
    abbrev marks' : List ℕ
    marks' = set marks number y

    long : length marks' ≡ length marks
    long = length-set marks number y

    at_number : get_or marks' number 0 ≡ y
    at_number = get_or-set_same marks number y 0 (omega (arith, tidy.bound))

    elsewhere : (k : ℕ) → (k ≡ number → ⊥) → get_or marks' k 0 ≡ get_or marks k 0
    elsewhere k ne = get_or-set_other marks number k y 0 ne

    still_painted : (k : ℕ) → (get_or marks k 0 ≡ 0 → ⊥) → get_or marks' k 0 ≡ 0 → ⊥
    still_painted k p e =
        ⊎_elim
        (λ same. paints (sym at_number ∙ ap (λ n. get_or marks' n 0) (sym same) ∙ e))
        (λ ne. p (sym (elsewhere k ne) ∙ e))
        (cases_eq k number)

    with_queue : (queue' : List ByNumber) (count' : ℕ) → ((k : ℕ) → Among (waiting k) queue count → Among (waiting k) queue' count') →
        Among (waiting number) queue' count' → ((k : ℕ) → Among (waiting k) queue' count' → (k ≡ number) ⊎ Among (waiting k) queue count) →
        Distinct queue' count' → length queue' ≡ length queue → Tidy marks' queue' count' low bearing'
    with_queue queue' count' more here less distinct same = record {
      waits = λ k lt p.
          ⊎_elim
          (λ e. subst (λ n. Among (waiting n) queue' count') (sym e) here)
          (λ ne. more k (tidy.waits k (omega arith) (λ e. p (elsewhere k ne ∙ e))))
          (cases_eq k number);
      painted = λ k w.
          ⊎_elim
          (λ e. (omega arith, λ z. paints (sym at_number ∙ ap (λ n. get_or marks' n 0) (sym e) ∙ z)))
          (λ v. let old = tidy.painted k v in (omega (arith, old.0), still_painted k old.1))
          (less k w);
      distinct = distinct;
      counts = λ v some.
          counted marks low number x y was under tidy.bound (bears v) (get_or bearing v 0) (get_or bearing' v 0) (tidy.counts v some) (moves v some);
      bound = omega (arith, tidy.bound, long);
      room = omega (arith, tidy.room, long);
      few = omega (arith, tidy.few, long);
    }

    -- paint on a commit that waits already
    pub tidy_again : (x ≡ 0 → ⊥) → Tidy marks' queue count low bearing'
    tidy_again old = with_queue queue count (λ k w. w) (tidy.waits number under (λ e. old (sym was ∙ e))) (λ k w. inr w) tidy.distinct refl

    -- paint on a commit that was clear: it joins the queue
    pub tidy_joins : x ≡ 0 → (queue' : List ByNumber) (count' : ℕ) → length queue' ≡ length queue → count' ≤ length queue' →
        IsPermutation (waiting number ∷ take count queue) (take count' queue') → Tidy marks' queue' count' low bearing'
    tidy_joins clear queue' m same fits holds =
        let n = count in
        with_queue queue' m (λ k w. among_more (waiting number) queue queue' n m within fits holds (waiting k) (inr w))
        (among_more (waiting number) queue queue' n m within fits holds (waiting number) (inl refl))
        (λ k w. ⊎_elim (λ e. inl (ap (λ q. q.number) e)) inr (among_less (waiting number) queue queue' n m within fits holds (waiting k) w))
        (distinct_more (waiting number) queue queue' n m within fits holds tidy.distinct (λ w. (tidy.painted number w).1 (was ∙ clear)))
        same

  -- the commit with the greatest number is taken out
  module _ (queue' : List ByNumber) (count' c : ℕ) (one : count' + 1 ≡ count) (taken : TakenOut higher queue queue' count (waiting c)) (same : length queue' ≡ length queue) where
    fewer : count - 1 ≡ count'
    fewer = omega arith

    holds : IsPermutation (waiting c ∷ take count' queue') (take count queue)
    holds = subst (λ n. IsPermutation (waiting c ∷ take n queue') (take count queue)) fewer taken.holds

    fits : count' ≤ length queue'
    fits = omega arith

    among_c : Among (waiting c) queue count
    among_c = among_more (waiting c) queue' queue count' count fits within holds (waiting c) (inl refl)

    pub taken_under : c < low
    taken_under = (tidy.painted c among_c).0

    pub taken_painted : get_or marks c 0 ≡ 0 → ⊥
    taken_painted = (tidy.painted c among_c).1

    -- no higher commit waits
    pub taken_highest : (k : ℕ) → Among (waiting k) queue count → k ≤ c
    taken_highest k w =
        ⊎_elim
        (λ e. let z : k ≡ c = ap (λ q. q.number) (sym (w.2 (waiting 0)) ∙ e) in omega arith)
        (λ b. let z = ltb-true (get_or queue w.0 (waiting 0)).number c b in let y = ap (λ q. q.number) (w.2 (waiting 0)) in omega (arith, y, z))
        (taken.first w.0 (waiting 0) w.1)

    pub taken_skips : (k : ℕ) → c < k → k < low → get_or marks k 0 ≡ 0
    taken_skips k lt l =
        ⊎_elim (λ e. e) (λ ne. absurd (omega (arith, taken_highest k (tidy.waits k l ne)))) (cases_eq (get_or marks k 0) 0)

    pub tidy_taken : (bearing' : List ℕ) → ((v : ℕ) → get_or bearing' v 0 ≡ get_or bearing v 0 - bears v (get_or marks c 0)) → Tidy marks queue' count' c bearing'
    tidy_taken bearing' lost =
        let under = taken_under in
        record {
          waits = λ k lt p.
              let w = tidy.waits k (omega arith) p in
              ⊎_elim (λ e. let z = ap (λ q. q.number) e in absurd (omega arith)) (λ v. v)
              (among_less (waiting c) queue' queue count' count fits within holds (waiting k) w);
          painted = λ k w.
              let old = among_more (waiting c) queue' queue count' count fits within holds (waiting k) (inr w) in
              let gone : k ≡ c → ⊥ = λ e.
              taken_gone (waiting c) queue' queue count' count fits within holds tidy.distinct (subst (λ j. Among (waiting j) queue' count') e w) in
              (omega (arith, taken_highest k old, gone), (tidy.painted k old).1);
          distinct = distinct_less (waiting c) queue' queue count' count fits within holds tidy.distinct;
          counts = λ v some. omega (arith, lost v, tidy.counts v some, sum_cut (bears v) (bears_none v some) marks c low under tidy.bound taken_skips);
          bound = omega (arith, tidy.bound);
          room = omega (arith, tidy.room);
          few = tidy.few;
        }

  -- a commit that waits is counted with its paint, and never too many are
  pub count_holds : (v : ℕ) → 0 < v → (number : ℕ) → number < low → bears v (get_or marks number 0) ≤ get_or bearing v 0
  count_holds v some number under =
      let long = length-take-le low marks tidy.bound in
      omega (arith, get_or-le-sum_by (bears v) (take low marks) number 0 (omega arith), ap (bears v) (get_or-take low marks number 0 under), tidy.counts v some)

  pub count_small : (v : ℕ) → 0 < v → get_or bearing v 0 ≤ 65536
  count_small v some =
      let long = length-take-le low marks tidy.bound in
      omega (arith, count_by-le-length (shows v) (take low marks), tidy.counts v some, tidy.bound, tidy.few)

  -- a count, at place i, is 0 just where no commit that waits bears the paint
  module _ (paint : Paint) (i : ℕ) (at_i : i ≡ byte_of paint) (paints : paint ≡ Clear → ⊥) where
    some_i : 0 < i
    some_i = omega (arith, byte_painted paint paints)

    pub count_none : get_or bearing i 0 ≡ 0 → ((k : ℕ) → k < low → paint_at marks k ≡ paint → ⊥)
    count_none none k lt e = omega (arith, count_holds i some_i k lt, bears_it i (get_or marks k 0) (ap byte_of e ∙ sym at_i))

    pub none_counts : ((k : ℕ) → k < low → paint_at marks k ≡ paint → ⊥) → get_or bearing i 0 ≡ 0
    none_counts none =
        tidy.counts i some_i
        ∙ sum_zero (bears i) marks low (λ k lt. bears_not i (get_or marks k 0) (λ e. none k lt (sym (paint_byte _) ∙ ap paint_of (e ∙ at_i) ∙ paint_byte paint)))

-- clear marks and an empty queue
pub tidy_start : (marks : List ℕ) (queue : List ByNumber) → ((k : ℕ) → get_or marks k 0 ≡ 0) → length marks ≤ length queue → length marks ≤ 65536 →
    (bearing : List ℕ) → ((v : ℕ) → get_or bearing v 0 ≡ 0) → Tidy marks queue 0 (length marks) bearing
tidy_start marks queue clear room few bearing none = record {
  waits = λ k lt p. absurd (p (clear k));
  painted = λ k w. absurd (omega (arith, w.1));
  distinct = distinct_none queue;
  counts = λ v some. none v ∙ sym (sum_zero (bears v) marks (length marks) (λ k _. ap (bears v) (clear k) ∙ bears_none v some));
  bound = omega arith;
  room = room;
  few = few;
}
