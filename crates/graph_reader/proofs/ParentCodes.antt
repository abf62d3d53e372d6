-- What parents that were read say about the words that named them. Assumes nothing.
use Rattle.std.proofs.Common.{◌≡◌, ℕ, zero, suc, ◌+◌, ◌-◌, ◌<◌, ◌≤◌, ◌&&◌, eqb, ltb, leb, List, [], ◌∷◌, ◌++◌, length, get_or, drop, IfOk, Ok, Err, Result, sym, refl, ap, ◌∙◌, ap₂, arith}
use Rattle.std.specs.List.{flat_map}
use Rattle.std.proofs.lemmas.Result.{IfOk-at_ok, IfOk-weaker}
use Rattle.std.proofs.lemmas.Bool.{ltb-true, leb-true, leb-false, eqb-true, lt-ltb, and_parts, cond-true, cond_both}
use Rattle.graph_file.specs.Layout.{Row, has_edges}
use Rattle.graph_file.specs.Encoding.{extra}
use Rattle.graph_file.specs.ParentWords.{no_parent, mark, closed_words, edge_words, first_parent_word, second_parent_word}
use Rattle.graph_file.proofs.EdgeWords.{extra_many}
use Rattle.graph_reader.specs.Parents.{led_by, went_on, listed_from, others_of, parents_by, used_up, parents_from}

made_led : {X : Type 0} (P Q : List X → Type 0) (x : X) (r : Result (List X) ℕ) → ((xs : List X) → P xs → Q (x ∷ xs)) → IfOk r P → IfOk (led_by x r) Q
made_led P Q x (Ok xs) f m = f xs m
made_led P Q x (Err place) f m = tt

made_on : {X Y : Type 0} (P : X → Type 0) (Q : Y → Type 0) (r : Result X ℕ) (f : X → Result Y ℕ) → ((x : X) → P x → IfOk (f x) Q) → IfOk r P → IfOk (went_on r f) Q
made_on P Q (Ok x) f g m = g x m
made_on P Q (Err place) f g m = tt

-- each position is one of the file
abbrev pub Held : ℕ → List ℕ → Type 0
Held count ps = (j : ℕ) → j < length ps → get_or ps j 0 < count

held_one_more : (count p : ℕ) (ps : List ℕ) → p < count → Held count ps → Held count (p ∷ ps)
held_one_more count p ps lt held zero l = lt
held_one_more count p ps lt held (suc j) l = held j (omega arith)

-- a list of EDGE, of which k words came before
record Listed (count k : ℕ) (words qs : List ℕ) : Type 0 where
  held : Held count qs
  some : 1 ≤ length qs
  many : 2 ≤ length qs + k
  few : length qs + k ≤ 63
  closed : words ≡ closed_words qs ++ drop (length qs) words

closed_more : (w : ℕ) (qs : List ℕ) → 1 ≤ length qs → closed_words (w ∷ qs) ≡ w ∷ closed_words qs
closed_more w [] le = absurd (omega arith)
closed_more w (q ∷ qs) le = refl

listed_more : (count k w : ℕ) (words qs : List ℕ) → w < count → Listed count (suc k) words qs → Listed count k (w ∷ words) (w ∷ qs)
listed_more count k w words qs lt l =
    record {
      held = held_one_more count w qs lt l.held;
      some = omega arith;
      many = omega (arith, l.many);
      few = omega (arith, l.few);
      closed = ap (λ s. w ∷ s) l.closed ∙ ap (λ s. s ++ drop (length qs) words) (sym (closed_more w qs l.some));
    }

listed_last : (count k w : ℕ) (words : List ℕ) → 0 < k → k < 63 → mark ≤ w → w - mark < count → Listed count k (w ∷ words) ((w - mark) ∷ [])
listed_last count k w words pos lt le held =
    record {
      held = held_one_more count (w - mark) [] held (λ j l. absurd (omega arith));
      some = omega arith;
      many = omega arith;
      few = omega arith;
      closed = ap (λ x. x ∷ words) (let z : w ≡ mark + (w - mark) = omega arith in z);
    }

-- the parents of a commit whose two words are `first` and `second`, where `unused` is what is left of EDGE, from the index `next` on
pub record Coded (count next first second : ℕ) (unused ps : List ℕ) : Type 0 where
  pub held : Held count ps
  pub few : length ps ≤ 64
  pub first_is : first ≡ first_parent_word ps
  pub second_is : second ≡ second_parent_word next ps
  pub words_are : unused ≡ edge_words ps ++ drop (extra ps) unused

-- rows name these parents, where the words of EDGE for the first row begin at `next`
abbrev pub Encodes : ℕ → List Row → List (List ℕ) → Type 0
Encodes next [] [] = Unit {0}
Encodes next [] (ps ∷ pss) = ⊥
Encodes next (r ∷ rows) [] = ⊥
Encodes next (r ∷ rows) (ps ∷ pss) = (r.first ≡ first_parent_word ps) × (r.second ≡ second_parent_word next ps) × Encodes (next + extra ps) rows pss

-- the parents of the commits whose rows these are, where `unused` is what is left of EDGE
pub record Named (count next : ℕ) (rows : List Row) (unused : List ℕ) (pss : List (List ℕ)) : Type 0 where
  pub long : length pss ≡ length rows
  pub encodes : Encodes next rows pss
  pub words_are : unused ≡ flat_map edge_words pss
  pub held : (k : ℕ) → Held count (get_or pss k [])
  pub few : (k : ℕ) → length (get_or pss k []) ≤ 64

coded_many : (count next first second : ℕ) (unused qs : List ℕ) → first < count → second ≡ mark + next → Listed count 0 unused qs →
    Coded count next first second unused (first ∷ qs)
coded_many count next first second unused [] lt e l = absurd (omega (arith, l.some))
coded_many count next first second unused (q ∷ []) lt e l = absurd (omega (arith, l.many))
coded_many count next first second unused (q ∷ (r ∷ qs)) lt e l =
    let others = q ∷ (r ∷ qs) in
    let taken : length others ≡ extra (first ∷ others) = omega (arith, extra_many (first ∷ others) (omega arith)) in
    record {
      held = held_one_more count first others lt l.held;
      few = omega (arith, l.few);
      first_is = refl;
      second_is = e;
      words_are = l.closed ∙ ap₂ (λ s n. s ++ drop n unused) (sym (cond-true _ _ [] (lt-ltb 1 (length others) (omega arith)))) taken;
    }

named_more : (count next : ℕ) (r : Row) (rows : List Row) (unused ps : List ℕ) (pss : List (List ℕ)) → Coded count next r.first r.second unused ps →
    Named count (next + extra ps) rows (drop (extra ps) unused) pss → Named count next (r ∷ rows) unused (ps ∷ pss)
named_more count next r rows unused ps pss c n =
    record {
      long = ap suc n.long;
      encodes = (c.first_is, c.second_is, n.encodes);
      words_are = c.words_are ∙ ap (λ s. edge_words ps ++ s) n.words_are;
      held = elim [ zero ↦ c.held | suc k ↦ n.held k ];
      few = elim [ zero ↦ c.few | suc k ↦ n.few k ];
    }

module _ (count cdat edge : ℕ) where
  listed_made : (at k : ℕ) (words : List ℕ) → IfOk (listed_from count cdat edge at k words) (Listed count k words)
  listed_made at k [] = tt
  listed_made at k (w ∷ words) =
      let P : Result (List ℕ) ℕ → Type 0 = λ r. IfOk r (Listed count k (w ∷ words)) in
      let closes = ltb 0 k && (leb mark w && ltb (w - mark) count) in
      cond_both (leb 63 k) _ _ P (λ _. tt) λ under.
      cond_both (ltb w count) _ _ P (λ lt. made_led (Listed count (suc k) words) (Listed count k (w ∷ words)) w (listed_from count cdat edge (suc at) (suc k) words)
      (λ qs l. listed_more count k w words qs (ltb-true w count lt) l) (listed_made (suc at) (suc k) words)) λ _.
      cond_both closes _ _ P (λ c.
      let a = and_parts (ltb 0 k) _ c in
      let b = and_parts (leb mark w) _ a.1 in
      listed_last count k w words (ltb-true 0 k a.0) (leb-false 63 k under) (leb-true mark w b.0) (ltb-true (w - mark) count b.1)) (λ _. tt)

  -- the parents behind the first, whichever that is
  others_made : (p next first second : ℕ) (unused : List ℕ) → first < count →
      IfOk (others_of count cdat edge p next second unused) (λ qs. Coded count next first second unused (first ∷ qs))
  others_made p next first second unused lt =
      let P : Result (List ℕ) ℕ → Type 0 = λ r. IfOk r (λ qs. Coded count next first second unused (first ∷ qs)) in
      let alone : Held count (first ∷ []) = held_one_more count first [] lt (λ j l. absurd (omega arith)) in
      cond_both (eqb second no_parent) _ _ P
      (λ e. record { held = alone; few = omega arith; first_is = refl; second_is = eqb-true second no_parent e; words_are = refl }) λ _.
      cond_both (ltb second count) _ _ P
      (λ l. record {
        held = held_one_more count first (second ∷ []) lt (held_one_more count second [] (ltb-true second count l) (λ j l. absurd (omega arith)));
        few = omega arith;
        first_is = refl;
        second_is = refl;
        words_are = refl;
      }) λ _.
      cond_both (eqb second (mark + next) && has_edges unused) _ _ P
      (λ c. IfOk-weaker (listed_from count cdat edge next 0 unused) (Listed count 0 unused) (λ qs. Coded count next first second unused (first ∷ qs))
      (λ qs l. coded_many count next first second unused qs lt (eqb-true second (mark + next) (and_parts (eqb second (mark + next)) _ c).0) l)
      (listed_made next 0 unused)) (λ _. tt)

  parents_made : (p next first second : ℕ) (unused : List ℕ) → IfOk (parents_by count cdat edge p next first second unused) (Coded count next first second unused)
  parents_made p next first second unused =
      let P : Result (List ℕ) ℕ → Type 0 = λ r. IfOk r (Coded count next first second unused) in
      cond_both (eqb first no_parent) _ _ P
      (λ a. cond_both (eqb second no_parent) _ _ P
      (λ b. record {
        held = λ j l. absurd (omega arith);
        few = omega arith;
        first_is = eqb-true first no_parent a;
        second_is = eqb-true second no_parent b;
        words_are = refl;
      }) (λ _. tt)) λ _.
      cond_both (ltb first count) _ _ P
      (λ lt. made_led (λ qs. Coded count next first second unused (first ∷ qs)) (Coded count next first second unused) first (others_of count cdat edge p next second unused)
      (λ qs c. c) (others_made p next first second unused (ltb-true first count lt))) (λ _. tt)

  none_left : (next : ℕ) (unused : List ℕ) → IfOk (used_up count cdat edge next unused) (Named count next [] unused)
  none_left next [] = record { long = refl; encodes = tt; words_are = refl; held = λ k j l. absurd (omega arith); few = λ k. omega arith }
  none_left next (w ∷ words) = tt

  rows_made : (p next : ℕ) (rows : List Row) (unused : List ℕ) → IfOk (parents_from count cdat edge p next rows unused) (Named count next rows unused)
  rows_made p next [] unused = none_left next unused
  rows_made p next (r ∷ rows) unused =
      made_on (Coded count next r.first r.second unused) (Named count next (r ∷ rows) unused) (parents_by count cdat edge p next r.first r.second unused)
      (λ ps. led_by ps (parents_from count cdat edge (suc p) (next + extra ps) rows (drop (extra ps) unused)))
      (λ ps c. made_led (Named count (next + extra ps) rows (drop (extra ps) unused)) (Named count next (r ∷ rows) unused) ps
      (parents_from count cdat edge (suc p) (next + extra ps) rows (drop (extra ps) unused))
      (λ pss n. named_more count next r rows unused ps pss c n) (rows_made (suc p) (next + extra ps) rows (drop (extra ps) unused)))
      (parents_made p next r.first r.second unused)

  -- parents that were read without fault
  pub parents_named : (p next : ℕ) (rows : List Row) (unused : List ℕ) (pss : List (List ℕ)) → parents_from count cdat edge p next rows unused ≡ Ok pss →
      Named count next rows unused pss
  parents_named p next rows unused pss e = IfOk-at_ok (Named count next rows unused) e (rows_made p next rows unused)
