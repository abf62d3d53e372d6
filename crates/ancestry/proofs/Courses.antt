-- What the paints tell once higher commits have handed theirs on. Assumes nothing.
use Rattle.std.proofs.Common.{◌≡◌, ℕ, zero, suc, ◌<◌, ◌≤◌, Bool, true, false, ◌||◌, List, [], ◌∷◌, length, get_or, sym, refl, ap, ◌∙◌, subst, ⊎_elim, arith}
use Rattle.std.proofs.lemmas.List.{length-set, get_or-set_same, get_or-set_other}
use Rattle.std.proofs.lemmas.Bool.{cases_eq, cases_lt, both_ways, or_cases, or_left, or_right, and_parts, and_from}
use Rattle.history.specs.History.{Commit, Parent, Chain, Reaches, parents_of}
use Rattle.history.specs.History.Chain.{here, onward}
use Rattle.history.proofs.Chains.{chain_falls, reaches_on}
use Rattle.ancestry.specs.declared.paint.Paint.{Paint}
use Rattle.ancestry.specs.declared.paint.Paint.TheVariants.{Clear, Left, Right}
use Rattle.ancestry.specs.Ancestry.{Common}
use Rattle.ancestry.specs.Painting.{paint_at, Under, Sound, Handed, Painting, laid, all_laid, Progress, Advanced}
use Rattle.ancestry.specs.Paints.{byte_of, paint_of, left, right, below, joined, passed}
use Rattle.ancestry.proofs.Bits.{joined_bits, passed_bits, below_both, paint_byte, zero_clear}

pub reaches_parent : (h : List Commit) (c p : ℕ) → Parent h c p → Reaches h c p
reaches_parent h c p q = (1, onward q here)

module _ (h : List Commit) (falling : (a p : ℕ) → Parent h a p → p < a) where
  -- something that children hand to their parents from `low` on comes down every chain, at least to where it crosses `low`
  module _ (low : ℕ) (has : ℕ → Type 0) (hand : (k p : ℕ) → low ≤ k → Parent h k p → has k → has p) where
    pub carried : (x k j : ℕ) → Chain h x k j → low ≤ k → has x → has k
    carried x k j here le b = b
    carried x k j (onward {p = p} {k = i} q c) le b =
        carried p k i c le (hand x p (omega (arith, falling x p q, chain_falls h falling p k i c)) q b)

    pub crossed : (x k j : ℕ) → Chain h x k j → k < low → has x → (q : ℕ) × (q < low) × has q × Reaches h q k
    crossed x k j here lt b = (x, lt, b, (0, here))
    crossed x k j (onward {p = p} {k = i} q c) lt b =
        ⊎_elim
        (λ l. (x, l, b, (suc i, onward q c)))
        (λ ge. crossed p k i c lt (hand x p ge q b))
        (cases_lt x low)

  module _ (a b low : ℕ) (marks : List ℕ) (painting : Painting h a b low marks) where
    abbrev bears : (Paint → Bool) → ℕ → Type 0
    bears bit k = bit (paint_at marks k) ≡ true

    hand_left : (k p : ℕ) → low ≤ k → Parent h k p → bears left k → bears left p
    hand_left k p le q e = (painting.handed k p le q).by_left e

    hand_right : (k p : ℕ) → low ≤ k → Parent h k p → bears right k → bears right p
    hand_right k p le q e = (painting.handed k p le q).by_right e

    hand_below : (k p : ℕ) → low ≤ k → Parent h k p → bears below k → bears below p
    hand_below k p le q e = let b = below_both (paint_at marks k) e in (painting.handed k p le q).by_below b.0 b.1

    pub exact_left : (k : ℕ) → low ≤ k → Reaches h a k → bears left k
    exact_left k le r = carried low (bears left) hand_left a k r.0 r.1 le painting.first

    pub exact_right : (k : ℕ) → low ≤ k → Reaches h b k → bears right k
    exact_right k le r = carried low (bears right) hand_right b k r.0 r.1 le painting.second

    below_from : (d k j : ℕ) → Chain h d k j → k < d → low ≤ k → Common h a b d → bears below k
    below_from d k j here lt le common = absurd (omega arith)
    below_from d k j (onward {p = p} {k = i} q c) lt le common =
        carried low (bears below) hand_below p k i c le
        ((painting.handed d p (omega arith) q).by_below (exact_left d (omega arith) common.0) (exact_right d (omega arith) common.1))

    pub exact_below : (k : ℕ) → low ≤ k → Under h a b k → bears below k
    exact_below k le u = below_from u.0 k u.3.0 u.3.1 u.1 le u.2

    -- a chain to a commit below `low` crosses it at a painted commit
    pub cross_left : (k : ℕ) → k < low → Reaches h a k → (q : ℕ) × (q < low) × bears left q × Reaches h q k
    cross_left k lt r = crossed low (bears left) hand_left a k r.0 r.1 lt painting.first

    pub cross_right : (k : ℕ) → k < low → Reaches h b k → (q : ℕ) × (q < low) × bears right q × Reaches h q k
    cross_right k lt r = crossed low (bears right) hand_right b k r.0 r.1 lt painting.second

-- what holds of each commit's paint, as paint is laid on a list
module _ (arriving : Paint) where
  laid_at : (marks : List ℕ) (p : ℕ) → p < length marks → paint_at (laid arriving marks p) p ≡ joined (paint_at marks p) arriving
  laid_at marks p lt = ap paint_of (get_or-set_same marks p _ 0 lt) ∙ paint_byte _

  laid_other : (marks : List ℕ) (p k : ℕ) → (k ≡ p → ⊥) → get_or (laid arriving marks p) k 0 ≡ get_or marks k 0
  laid_other marks p k ne = get_or-set_other marks p k _ 0 ne

  pub laid_keeps : (Q : ℕ → Paint → Type 0) (R : ℕ → Type 0) → ((k : ℕ) (x : Paint) → R k → Q k x → Q k (joined x arriving)) →
      (ps marks : List ℕ) → ((j : ℕ) → j < length ps → (get_or ps j 0 < length marks) × R (get_or ps j 0)) →
      ((k : ℕ) → Q k (paint_at marks k)) → (k : ℕ) → Q k (paint_at (all_laid arriving marks ps) k)
  laid_keeps Q R step [] marks each all k = all k
  laid_keeps Q R step (p ∷ ps) marks each all k =
      let here = each 0 (omega arith) in
      laid_keeps Q R step ps (laid arriving marks p)
      (λ j lt. let e = each (suc j) (omega arith) in (omega (arith, e.0, length-set marks p (byte_of (joined (paint_at marks p) arriving))), e.1))
      (λ i.
      ⊎_elim
      (λ e. subst (λ n. Q n (paint_at (laid arriving marks p) n)) (sym e) (subst (Q p) (sym (laid_at marks p here.0)) (step p (paint_at marks p) here.1 (all p))))
      (λ ne. subst (Q i) (ap paint_of (sym (laid_other marks p i ne))) (all i))
      (cases_eq i p))
      k

  pub laid_elsewhere : (ps marks : List ℕ) (k : ℕ) → ((j : ℕ) → j < length ps → k ≡ get_or ps j 0 → ⊥) → get_or (all_laid arriving marks ps) k 0 ≡ get_or marks k 0
  laid_elsewhere [] marks k none = refl
  laid_elsewhere (p ∷ ps) marks k none =
      laid_elsewhere ps (laid arriving marks p) k (λ j lt. none (suc j) (omega arith)) ∙ laid_other marks p k (none 0 (omega arith))

  module _ (bit : Paint → Bool) (joins : (x y : Paint) → bit (joined x y) ≡ (bit x || bit y)) where
    pub laid_grows : (ps marks : List ℕ) → ((j : ℕ) → j < length ps → get_or ps j 0 < length marks) → (k : ℕ) →
        bit (paint_at marks k) ≡ true → bit (paint_at (all_laid arriving marks ps) k) ≡ true
    laid_grows ps marks each k =
        laid_keeps (λ i x. bit (paint_at marks i) ≡ true → bit x ≡ true) (λ _. Unit {0}) (λ i x _ old e. joins x arriving ∙ or_left _ _ (old e)) ps marks
        (λ j lt. (each j lt, tt)) (λ i e. e) k

    pub laid_arrives : (ps marks : List ℕ) → ((j : ℕ) → j < length ps → get_or ps j 0 < length marks) → bit arriving ≡ true →
        (j : ℕ) → j < length ps → bit (paint_at (all_laid arriving marks ps) (get_or ps j 0)) ≡ true
    laid_arrives [] marks each e j lt = absurd (omega arith)
    laid_arrives (p ∷ ps) marks each e zero lt =
        laid_grows ps (laid arriving marks p) (λ i l. omega (arith, each (suc i) (omega arith), length-set marks p (byte_of (joined (paint_at marks p) arriving)))) p
        (ap bit (laid_at marks p (each 0 (omega arith))) ∙ joins (paint_at marks p) arriving ∙ or_right _ _ e)
    laid_arrives (p ∷ ps) marks each e (suc j) lt =
        laid_arrives ps (laid arriving marks p) (λ i l. omega (arith, each (suc i) (omega arith), length-set marks p (byte_of (joined (paint_at marks p) arriving)))) e j (omega arith)

sound_joined : (h : List Commit) (a b k : ℕ) (x y : Paint) → Sound h a b k x → Sound h a b k y → Sound h a b k (joined x y)
sound_joined h a b k x y s t =
    let bits = joined_bits x y in
    record {
      by_left = λ e. ⊎_elim s.by_left t.by_left (or_cases _ _ (sym bits.0 ∙ e));
      by_right = λ e. ⊎_elim s.by_right t.by_right (or_cases _ _ (sym bits.1 ∙ e));
      by_below = λ e. ⊎_elim s.by_below t.by_below (or_cases _ _ (sym bits.2 ∙ e));
    }

-- what a sound paint lays on a parent is sound
sound_passed : (h : List Commit) (a b c p : ℕ) (x : Paint) → p < c → Parent h c p → Sound h a b c x → Sound h a b p (passed x)
sound_passed h a b c p x lt q s =
    let bits = passed_bits x in
    let down = reaches_parent h c p q in
    record {
      by_left = λ e. reaches_on h a c p (s.by_left (sym bits.0 ∙ e)) down;
      by_right = λ e. reaches_on h b c p (s.by_right (sym bits.1 ∙ e)) down;
      by_below = λ e. let both = and_parts _ _ (sym bits.2 ∙ e) in (c, lt, (s.by_left both.0, s.by_right both.1), down);
    }

clear_hands : (x y : Paint) → x ≡ Clear → Handed x y
clear_hands x y e = record {
  by_left = λ t. absurd (both_ways (left x) (ap left e) t);
  by_right = λ t. absurd (both_ways (right x) (ap right e) t);
  by_below = λ t _. absurd (both_ways (left x) (ap left e) t);
}

left_joins : (x y : Paint) → left (joined x y) ≡ (left x || left y)
left_joins x y = (joined_bits x y).0

right_joins : (x y : Paint) → right (joined x y) ≡ (right x || right y)
right_joins x y = (joined_bits x y).1

below_joins : (x y : Paint) → below (joined x y) ≡ (below x || below y)
below_joins x y = (joined_bits x y).2

-- the walk goes on by one commit
module _ (h : List Commit) (falling : (a p : ℕ) → Parent h a p → p < a) (a b : ℕ) (s s' : Progress) (c : ℕ) (paint : Paint)
    (step : Advanced h s s' c paint) where
  abbrev ps : List ℕ
  ps = parents_of h c

  parent_low : (j : ℕ) → j < length ps → get_or ps j 0 < c
  parent_low j lt = falling c (get_or ps j 0) (j, lt, refl)

  parent_marked : (j : ℕ) → j < length ps → get_or ps j 0 < length s.marks
  parent_marked j lt = omega (arith, parent_low j lt, step.within)

  pub mark_stands : (k : ℕ) → c ≤ k → get_or s'.marks k 0 ≡ get_or s.marks k 0
  mark_stands k le =
      ap (λ m. get_or m k 0) step.spread
      ∙ laid_elsewhere (passed paint) ps s.marks k (λ j lt e. let z = parent_low j lt in omega arith)

  pub paint_stands : paint_at s'.marks c ≡ paint
  paint_stands = ap paint_of (mark_stands c (omega arith)) ∙ sym step.bears

  grows : (bit : Paint → Bool) → ((x y : Paint) → bit (joined x y) ≡ (bit x || bit y)) → (k : ℕ) → bit (paint_at s.marks k) ≡ true → bit (paint_at s'.marks k) ≡ true
  grows bit joins k e =
      subst (λ m. bit (paint_at m k) ≡ true) (sym step.spread) (laid_grows (passed paint) bit joins ps s.marks parent_marked k e)

  arrives : (bit : Paint → Bool) → ((x y : Paint) → bit (joined x y) ≡ (bit x || bit y)) → bit (passed paint) ≡ true → (p : ℕ) → Parent h c p → bit (paint_at s'.marks p) ≡ true
  arrives bit joins e p q =
      subst (λ n. bit (paint_at s'.marks n) ≡ true) q.2
      (subst (λ m. bit (paint_at m (get_or ps q.0 0)) ≡ true) (sym step.spread) (laid_arrives (passed paint) bit joins ps s.marks parent_marked e q.0 q.1))

  pub painting_on : Painting h a b s.low s.marks → Painting h a b c s'.marks
  painting_on old =
      let bits = passed_bits paint in
      let sound_c = subst (Sound h a b c) (sym step.bears) (old.sound c) in
      record {
        sound = λ k. subst (λ m. Sound h a b k (paint_at m k)) (sym step.spread)
            (laid_keeps (passed paint) (Sound h a b) (λ i. Sound h a b i (passed paint)) (λ i x r s. sound_joined h a b i x (passed paint) s r) ps s.marks
            (λ j lt. (parent_marked j lt, sound_passed h a b c (get_or ps j 0) paint (parent_low j lt) (j, lt, refl) sound_c)) old.sound k);
        first = grows left left_joins a old.first;
        second = grows right right_joins b old.second;
        handed = λ k p le q.
            ⊎_elim
            (λ e.
            let q' = subst (λ n. Parent h n p) e q in
            let is : paint_at s'.marks k ≡ paint = ap (paint_at s'.marks) e ∙ paint_stands in
            subst (λ x. Handed x (paint_at s'.marks p)) (sym is)
            record {
              by_left = λ t. arrives left left_joins (bits.0 ∙ t) p q';
              by_right = λ t. arrives right right_joins (bits.1 ∙ t) p q';
              by_below = λ t u. arrives below below_joins (bits.2 ∙ and_from _ _ t u) p q';
            })
            (λ ne.
            let is : paint_at s'.marks k ≡ paint_at s.marks k = ap paint_of (mark_stands k le) in
            subst (λ x. Handed x (paint_at s'.marks p)) (sym is)
            (⊎_elim
            (λ lt. clear_hands (paint_at s.marks k) (paint_at s'.marks p) (zero_clear (get_or s.marks k 0) (step.skipped k (omega arith) lt)))
            (λ ge.
            let was = old.handed k p ge q in
            record {
              by_left = λ t. grows left left_joins p (was.by_left t);
              by_right = λ t. grows right right_joins p (was.by_right t);
              by_below = λ t u. grows below below_joins p (was.by_below t u);
            })
            (cases_lt k s.low)))
            (cases_eq k c);
      }

-- the walk begins: clear marks, with paint on the two commits
module _ (h : List Commit) (a b : ℕ) (marks : List ℕ) (zero_all : (k : ℕ) → get_or marks k 0 ≡ 0) (in_a : a < length marks) (in_b : b < length marks) where
  abbrev begun : List ℕ
  begun = laid Right (laid Left marks a) b

  sound_left : Sound h a b a Left
  sound_left = record { by_left = λ _. (0, here); by_right = λ e. absurd (both_ways false refl e); by_below = λ e. absurd (both_ways false refl e) }

  sound_right : Sound h a b b Right
  sound_right = record { by_left = λ e. absurd (both_ways false refl e); by_right = λ _. (0, here); by_below = λ e. absurd (both_ways false refl e) }

  sound_clear : (k : ℕ) (x : Paint) → x ≡ Clear → Sound h a b k x
  sound_clear k x e = record {
    by_left = λ t. absurd (both_ways (left x) (ap left e) t);
    by_right = λ t. absurd (both_ways (right x) (ap right e) t);
    by_below = λ t. absurd (both_ways (below x) (ap below e) t);
  }

  pub painting_begins : Painting h a b (length marks) begun
  painting_begins =
      let one : List ℕ = a ∷ [] in
      let two : List ℕ = b ∷ [] in
      let long = length-set marks a (byte_of (joined (paint_at marks a) Left)) in
      let in_one : (j : ℕ) → j < length one → get_or one j 0 < length marks = λ j lt. only a j lt (λ n. n < length marks) in_a in
      let in_two : (j : ℕ) → j < length two → get_or two j 0 < length (laid Left marks a) = λ j lt. only b j lt (λ n. n < length (laid Left marks a)) (omega arith) in
      let sound_one = laid_keeps Left (Sound h a b) (λ i. Sound h a b i Left) (λ i x r s. sound_joined h a b i x Left s r) one marks
      (λ j lt. (in_one j lt, only a j lt (λ n. Sound h a b n Left) sound_left)) (λ k. sound_clear k _ (zero_clear (get_or marks k 0) (zero_all k))) in
      record {
        sound = laid_keeps Right (Sound h a b) (λ i. Sound h a b i Right) (λ i x r s. sound_joined h a b i x Right s r) two (laid Left marks a)
            (λ j lt. (in_two j lt, only b j lt (λ n. Sound h a b n Right) sound_right)) sound_one;
        first = laid_grows Right left left_joins two (laid Left marks a) in_two a (laid_arrives Left left left_joins one marks in_one refl 0 (omega arith));
        second = laid_arrives Right right right_joins two (laid Left marks a) in_two refl 0 (omega arith);
        handed = λ k p le q. clear_hands _ _
            (zero_clear (get_or begun k 0)
            (laid_elsewhere Right two (laid Left marks a) k (λ j lt e. only b j lt (λ n. k ≡ n → ⊥) (λ z. omega arith) e)
            ∙ laid_elsewhere Left one marks k (λ j lt e. only a j lt (λ n. k ≡ n → ⊥) (λ z. omega arith) e) ∙ zero_all k));
      }
    where
      only : (x j : ℕ) → j < 1 → (P : ℕ → Type 0) → P x → P (get_or (x ∷ []) j 0)
      only x zero lt P p = p
      only x (suc j) lt P p = absurd (omega arith)
