-- The two counts, along the walk. Assumes nothing.
use Rattle.std.proofs.Common.{◌≡◌, ℕ, suc, ◌+◌, ◌<◌, ◌≤◌, List, length, get_or, sym, refl, ap, ◌∙◌, subst, subst₂, add-one, arith}
use Rattle.history.specs.Counting.{Tally}
use Rattle.history.specs.History.{Commit, Parent}
use Rattle.ancestry.specs.declared.goal.Goal.TheVariants.{Counts}
use Rattle.ancestry.specs.declared.paint.Paint.{Paint}
use Rattle.ancestry.specs.declared.paint.Paint.TheVariants.{Left, Right}
use Rattle.ancestry.specs.Ancestry.{Ahead, Parted}
use Rattle.ancestry.specs.Painting.{paint_at, Painting, Progress, Advanced, Settled, laid}
use Rattle.ancestry.specs.Paints.{paint_of, byte_of, left, right}
use Rattle.ancestry.proofs.Bits.{only_left, only_right, zero_clear}
use Rattle.history.proofs.Chains.{chain_falls}
use Rattle.ancestry.proofs.Courses.{exact_left, exact_right, cross_left, cross_right, painting_on, painting_begins, mark_stands, paint_stands}
use Rattle.ancestry.proofs.Tallies.{none_from, one_more, no_more, none_below}

-- paints are what they should be, and the commits from `low` on are counted, of a graph of so many commits
pub record Counting (h : List Commit) (size a b : ℕ) (s : Progress) (m n : ℕ) : Type 0 where
  pub commits : s.commits ≡ h
  pub goal : s.goal ≡ Counts
  pub painting : Painting h a b s.low s.marks
  pub ahead : Tally (Ahead h a b) (length h) s.low m
  pub behind : Tally (Ahead h b a) (length h) s.low n
  pub ahead_fits : m + s.low ≤ size
  pub behind_fits : n + s.low ≤ size

-- a clear mark bears neither paint
not_left : (x : ℕ) → x ≡ 0 → paint_of x ≡ Left → ⊥
not_left x e is = omega (arith, sym (ap byte_of (zero_clear x e)) ∙ ap byte_of is)

not_right : (x : ℕ) → x ≡ 0 → paint_of x ≡ Right → ⊥
not_right x e is = omega (arith, sym (ap byte_of (zero_clear x e)) ∙ ap byte_of is)

module _ (h : List Commit) (falling : (a p : ℕ) → Parent h a p → p < a) (size a b : ℕ) where
  high_none : (x y size : ℕ) → x < size → (k : ℕ) → size ≤ k → Ahead h x y k → ⊥
  high_none x y size lt k le ahead = omega (arith, chain_falls h falling x k ahead.0.0 ahead.0.1)

  pub counting_begins : (marks : List ℕ) → ((k : ℕ) → get_or marks k 0 ≡ 0) → a < length marks → b < length marks → length marks ≤ size → size ≡ length h →
      (s : Progress) → s ≡ record { commits = h; goal = Counts; marks = laid Right (laid Left marks a) b; low = length marks } → Counting h size a b s 0 0
  counting_begins marks clear in_a in_b held all s is =
      let low = ap (λ p. p.low) is in
      record {
        commits = ap (λ p. p.commits) is;
        goal = ap (λ p. p.goal) is;
        painting = subst₂ (λ n l. Painting h a b n l) (sym low) (sym (ap (λ p. p.marks) is)) (painting_begins h a b marks clear in_a in_b);
        ahead = none_from (Ahead h a b) (length h) s.low (omega (arith, low)) (high_none a b s.low (omega (arith, low)));
        behind = none_from (Ahead h b a) (length h) s.low (omega (arith, low)) (high_none b a s.low (omega (arith, low)));
        ahead_fits = omega (arith, low);
        behind_fits = omega (arith, low);
      }

  module _ (s s' : Progress) (c : ℕ) (paint : Paint) (step' : Advanced s.commits s s' c paint)
      (m n : ℕ) (old : Counting h size a b s m n) where
    step : Advanced h s s' c paint
    step = subst (λ k. Advanced k s s' c paint) old.commits step'

    on : Painting h a b c s'.marks
    on = painting_on h falling a b s s' c paint step old.painting

    clear_above : (k : ℕ) → c < k → k < s.low → get_or s'.marks k 0 ≡ 0
    clear_above k lt l = mark_stands h falling a b s s' c paint step k (omega arith) ∙ step.skipped k lt l

    here_is : paint_at s'.marks c ≡ paint
    here_is = paint_stands h falling a b s s' c paint step

    ahead_one : paint ≡ Left → Tally (Ahead h a b) (length h) c (suc m)
    ahead_one e =
        one_more h a b c (paint_at s'.marks) left right Left refl refl only_left (exact_left h falling a b c s'.marks on) (λ k. (on.sound k).by_left)
        (exact_right h falling a b c s'.marks on) (λ k. (on.sound k).by_right) (length h) s.low m step.under (λ k lt l. not_left (get_or s'.marks k 0) (clear_above k lt l)) old.ahead (here_is ∙ e)

    ahead_none : (paint ≡ Left → ⊥) → Tally (Ahead h a b) (length h) c m
    ahead_none ne =
        no_more h a b c (paint_at s'.marks) left right Left refl refl only_left (exact_left h falling a b c s'.marks on) (λ k. (on.sound k).by_left)
        (exact_right h falling a b c s'.marks on) (λ k. (on.sound k).by_right) (length h) s.low m step.under (λ k lt l. not_left (get_or s'.marks k 0) (clear_above k lt l)) old.ahead (λ e. ne (sym here_is ∙ e))

    behind_one : paint ≡ Right → Tally (Ahead h b a) (length h) c (suc n)
    behind_one e =
        one_more h b a c (paint_at s'.marks) right left Right refl refl only_right (exact_right h falling a b c s'.marks on) (λ k. (on.sound k).by_right)
        (exact_left h falling a b c s'.marks on) (λ k. (on.sound k).by_left) (length h) s.low n step.under (λ k lt l. not_right (get_or s'.marks k 0) (clear_above k lt l)) old.behind (here_is ∙ e)

    behind_none : (paint ≡ Right → ⊥) → Tally (Ahead h b a) (length h) c n
    behind_none ne =
        no_more h b a c (paint_at s'.marks) right left Right refl refl only_right (exact_right h falling a b c s'.marks on) (λ k. (on.sound k).by_right)
        (exact_left h falling a b c s'.marks on) (λ k. (on.sound k).by_left) (length h) s.low n step.under (λ k lt l. not_right (get_or s'.marks k 0) (clear_above k lt l)) old.behind (λ e. ne (sym here_is ∙ e))

    counted : (m' n' : ℕ) → Tally (Ahead h a b) (length h) c m' → Tally (Ahead h b a) (length h) c n' → m' ≤ m + 1 → n' ≤ n + 1 → Counting h size a b s' m' n'
    counted m' n' ahead behind le le' = record {
      commits = step.commits ∙ old.commits;
      goal = step.goal ∙ old.goal;
      painting = subst (λ l. Painting h a b l s'.marks) (sym step.lower) on;
      ahead = subst (λ l. Tally (Ahead h a b) (length h) l m') (sym step.lower) ahead;
      behind = subst (λ l. Tally (Ahead h b a) (length h) l n') (sym step.lower) behind;
      ahead_fits = omega (arith, step.lower, step.under, old.ahead_fits);
      behind_fits = omega (arith, step.lower, step.under, old.behind_fits);
    }

    pub counting_left : paint ≡ Left → Counting h size a b s' (m + 1) n
    counting_left e = counted (m + 1) n (subst (λ j. Tally (Ahead h a b) (length h) c j) (sym (add-one m)) (ahead_one e))
        (behind_none (λ f. omega (arith, ap byte_of (sym e ∙ f)))) (omega arith) (omega arith)

    pub counting_right : paint ≡ Right → Counting h size a b s' m (n + 1)
    counting_right e = counted m (n + 1) (ahead_none (λ f. omega (arith, ap byte_of (sym e ∙ f))))
        (subst (λ j. Tally (Ahead h b a) (length h) c j) (sym (add-one n)) (behind_one e)) (omega arith) (omega arith)

    pub counting_else : (paint ≡ Left → ⊥) → (paint ≡ Right → ⊥) → Counting h size a b s' m n
    counting_else no-l no-r = counted m n (ahead_none no-l) (behind_none no-r) (omega arith) (omega arith)

  pub counting_ends : (s : Progress) → Settled s.goal s → (m n : ℕ) → Counting h size a b s m n → Parted h a b m n
  counting_ends s settled m n old =
      let p = old.painting in
      let none = subst (λ goal. Settled goal s) old.goal settled in
      record {
        ahead = none_below h a b s.low (paint_at s.marks) left right Left refl refl only_left (exact_left h falling a b s.low s.marks p) (λ k. (p.sound k).by_left)
            (exact_right h falling a b s.low s.marks p) (λ k. (p.sound k).by_right) (cross_left h falling a b s.low s.marks p) none.0 (length h) m old.ahead;
        behind = none_below h b a s.low (paint_at s.marks) right left Right refl refl only_right (exact_right h falling a b s.low s.marks p) (λ k. (p.sound k).by_right)
            (exact_left h falling a b s.low s.marks p) (λ k. (p.sound k).by_left) (cross_right h falling a b s.low s.marks p) none.1 (length h) n old.behind;
      }
