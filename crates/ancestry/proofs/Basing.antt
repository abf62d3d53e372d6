-- Merge bases, told by the paints. Assumes nothing.
use Rattle.std.proofs.Common.{◌≡◌, ℕ, ◌<◌, ◌≤◌, true, false, ◌⊎◌, List, [], ◌∷◌, ◌++◌, length, get_or, sym, refl, ap, ◌∙◌, subst, ⊎_elim, arith}
use Rattle.std.proofs.lemmas.List.{get_or_append_left, get_or_push, length_push}
use Rattle.std.proofs.lemmas.Bool.{both_ways, cases_Bool, cases_eq, cases_lt}
use Rattle.history.specs.History.{Commit, Parent, Reaches}
use Rattle.ancestry.specs.declared.paint.Paint.TheVariants.{Left, Right, Both}
use Rattle.ancestry.specs.Ancestry.{MergeBase, Bases}
use Rattle.ancestry.specs.Painting.{paint_at, Painting}
use Rattle.ancestry.specs.Paints.{left, right, below}
use Rattle.ancestry.proofs.Bits.{only_left, only_right, only_both}
use Rattle.history.proofs.Chains.{chain_falls, reaches_on}
use Rattle.ancestry.proofs.Courses.{exact_left, exact_right, exact_below, cross_left, cross_right}

module _ (h : List Commit) (falling : (a p : ℕ) → Parent h a p → p < a) (a b low : ℕ) (marks : List ℕ) (painting : Painting h a b low marks) where
  base_at : (k : ℕ) → low ≤ k → paint_at marks k ≡ Both → MergeBase h a b k
  base_at k le e =
      let sound = painting.sound k in
      record {
        common = (sound.by_left (ap left e), sound.by_right (ap right e));
        best = λ d common r.
            ⊎_elim (λ same. same)
            (λ ne.
            let lt : k < d = omega (arith, chain_falls h falling d k r.0 r.1) in
            absurd (both_ways (below (paint_at marks k)) (ap below e) (exact_below h falling a b low marks painting k le (d, lt, common, r))))
            (cases_eq d k);
      }

  base_paint : (k : ℕ) → low ≤ k → MergeBase h a b k → paint_at marks k ≡ Both
  base_paint k le base =
      only_both (paint_at marks k) (exact_left h falling a b low marks painting k le base.common.0) (exact_right h falling a b low marks painting k le base.common.1)
      (⊎_elim
      (λ t. let u = (painting.sound k).by_below t in let z = base.best u.0 u.2 u.3 in absurd (omega (arith, u.1)))
      (λ f. f)
      (cases_Bool (below (paint_at marks k))))

  -- what lies below a commit that bears `below` is no merge base
  under_no_base : (q k : ℕ) → below (paint_at marks q) ≡ true → Reaches h q k → MergeBase h a b k → ⊥
  under_no_base q k e r base =
      let u = (painting.sound q).by_below e in
      let same = base.best u.0 u.2 (reaches_on h u.0 q k u.3 r) in
      omega (arith, u.1, chain_falls h falling q k r.0 r.1)

  -- where no queued paint is both, and one of left and right is missing, no merge base lies below
  pub no_base_below : ((k : ℕ) → k < low → paint_at marks k ≡ Both → ⊥) →
      ((k : ℕ) → k < low → paint_at marks k ≡ Left → ⊥) ⊎ ((k : ℕ) → k < low → paint_at marks k ≡ Right → ⊥) →
      (k : ℕ) → k < low → MergeBase h a b k → ⊥
  no_base_below no_both one_side k lt base =
      let q = cross_left h falling a b low marks painting k lt base.common.0 in
      let r = cross_right h falling a b low marks painting k lt base.common.1 in
      let not_under : (s : ℕ) → Reaches h s k → below (paint_at marks s) ≡ false = λ s w.
      ⊎_elim (λ t. absurd (under_no_base s k t w base)) (λ f. f) (cases_Bool (below (paint_at marks s))) in
      let q_left : paint_at marks q.0 ≡ Left = only_left (paint_at marks q.0) q.2
      (⊎_elim (λ t. absurd (no_both q.0 q.1 (only_both (paint_at marks q.0) q.2 t (not_under q.0 q.3)))) (λ f. f) (cases_Bool (right (paint_at marks q.0)))) in
      let r_right : paint_at marks r.0 ≡ Right = only_right (paint_at marks r.0) r.2
      (⊎_elim (λ t. absurd (no_both r.0 r.1 (only_both (paint_at marks r.0) t r.2 (not_under r.0 r.3)))) (λ f. f) (cases_Bool (left (paint_at marks r.0)))) in
      ⊎_elim (λ none. none q.0 q.1 q_left) (λ none. none r.0 r.1 r_right) one_side

  pub bases_end : ((k : ℕ) → k < low → MergeBase h a b k → ⊥) → (list : List ℕ) → Bases h a b low list → Bases h a b 0 list
  bases_end none list s = record {
    falling = s.falling;
    each = s.each;
    high = λ i lt. omega arith;
    all = λ k _ base. ⊎_elim (λ lt. absurd (none k lt base)) (λ ge. s.all k ge base) (cases_lt k low);
  }

  module _ (upper : ℕ) (list : List ℕ) (under : low < upper) (skipped : (k : ℕ) → low < k → k < upper → paint_at marks k ≡ Both → ⊥) (s : Bases h a b upper list) where
    -- the commit at `low` is a merge base
    pub bases_more : paint_at marks low ≡ Both → Bases h a b low (list ++ (low ∷ []))
    bases_more e =
        let long = length_push list low in
        let last : get_or (list ++ (low ∷ [])) (length list) 0 ≡ low = get_or_push list low 0 (length list) refl in
        let old : (i : ℕ) → i < length list → get_or (list ++ (low ∷ [])) i 0 ≡ get_or list i 0 = λ i lt. get_or_append_left list (low ∷ []) 0 i lt in
        record {
          falling = λ i j lt l.
              ⊎_elim
              (λ same. omega (arith, ap (λ n. get_or (list ++ (low ∷ [])) n 0) same, last, old i (omega arith), s.high i (omega arith)))
              (λ ne. omega (arith, old i (omega arith), old j (omega arith), s.falling i j lt (omega arith)))
              (cases_eq j (length list));
          each = λ i lt.
              ⊎_elim
              (λ same. subst (MergeBase h a b) (sym (ap (λ n. get_or (list ++ (low ∷ [])) n 0) same ∙ last)) (base_at low (omega arith) e))
              (λ ne. subst (MergeBase h a b) (sym (old i (omega arith))) (s.each i (omega arith)))
              (cases_eq i (length list));
          high = λ i lt.
              ⊎_elim
              (λ same. omega (arith, ap (λ n. get_or (list ++ (low ∷ [])) n 0) same, last))
              (λ ne. omega (arith, old i (omega arith), s.high i (omega arith)))
              (cases_eq i (length list));
          all = λ k le base.
              ⊎_elim
              (λ same. (length list, omega arith, last ∙ sym same))
              (λ ne.
              ⊎_elim
              (λ lt. absurd (skipped k (omega arith) lt (base_paint k le base)))
              (λ ge. let w = s.all k ge base in (w.0, omega (arith, w.1), old w.0 w.1 ∙ w.2))
              (cases_lt k upper))
              (cases_eq k low);
        }

    pub bases_same : (paint_at marks low ≡ Both → ⊥) → Bases h a b low list
    bases_same no_both = record {
      falling = s.falling;
      each = s.each;
      high = λ i lt. omega (arith, s.high i lt);
      all = λ k le base.
          ⊎_elim
          (λ same. absurd (no_both (ap (paint_at marks) (sym same) ∙ base_paint k le base)))
          (λ ne.
          ⊎_elim
          (λ lt. absurd (skipped k (omega arith) lt (base_paint k le base)))
          (λ ge. s.all k ge base)
          (cases_lt k upper))
          (cases_eq k low);
    }
