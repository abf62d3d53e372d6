-- A wellformed history with one more commit. Assumes nothing.
use Rattle.std.proofs.Common.{◌≡◌, ℕ, ◌+◌, ◌<◌, ◌≤◌, List, [], ◌∷◌, ◌++◌, length, get_or, sym, refl, subst, ⊎_elim, arith}
use Rattle.std.proofs.lemmas.Bool.{cases_eq, cases_lt}
use Rattle.std.proofs.lemmas.List.{get_or_append_left, get_or_push, get_or_past, length_push}
use Rattle.history.specs.History.{Commit, no_commit, commit_of, parent_total, Proper, Wellformed}
use Rattle.history.proofs.Finding.{Absent}

pub total_push : (h : List Commit) (c : Commit) → parent_total (h ++ (c ∷ [])) ≡ parent_total h + length c.parents
total_push [] c = omega arith
total_push (x ∷ h) c = omega (arith, total_push h c)

pub proper_of : {h : List Commit} → Wellformed h → Proper h
proper_of w = record { falling = w.falling; dated = w.dated; few = w.few; wide = w.wide }

module _ (h : List Commit) (c : Commit) where
  pub commit_old : (a : ℕ) → a < length h → commit_of (h ++ (c ∷ [])) a ≡ commit_of h a
  commit_old a lt = get_or_append_left h (c ∷ []) no_commit a lt

  pub commit_new : commit_of (h ++ (c ∷ [])) (length h) ≡ c
  commit_new = get_or_push h c no_commit (length h) refl

  -- what holds of the old commits and of the new one holds of all that the history has
  pub each_push : (P : ℕ → Commit → Type 0) → ((a : ℕ) → a < length h → P a (commit_of h a)) → P (length h) c →
      (a : ℕ) → a < length h + 1 → P a (commit_of (h ++ (c ∷ [])) a)
  each_push P old new a lt =
      ⊎_elim
      (λ e. subst (λ i. P i (commit_of (h ++ (c ∷ [])) i)) (sym e) (subst (P (length h)) (sym commit_new) new))
      (λ ne. let l : a < length h = omega arith in subst (P a) (sym (commit_old a l)) (old a l))
      (cases_eq a (length h))

  -- and of the numbers that no commit has
  pub all_push : (P : ℕ → Commit → Type 0) → ((a : ℕ) → P a no_commit) → ((a : ℕ) → a < length h → P a (commit_of h a)) → P (length h) c →
      (a : ℕ) → P a (commit_of (h ++ (c ∷ [])) a)
  all_push P none old new a =
      ⊎_elim
      (λ lt. each_push P old new a lt)
      (λ ge. subst (P a) (sym (get_or_past (h ++ (c ∷ [])) a no_commit (omega (arith, length_push h c)))) (none a))
      (cases_lt a (length h + 1))

  pub proper_push : Proper h → c.date ≤ 17179869183 → length c.parents ≤ 64 → ((j : ℕ) → j < length c.parents → get_or c.parents j 0 < length h) →
      length c.id ≡ 20 → length c.tree ≡ 20 → Proper (h ++ (c ∷ []))
  proper_push w dated few held id tree =
      let long = length_push h c in
      record {
        falling = λ a p q.
            subst (λ x. x < a) q.2 (all_push (λ i x. (j : ℕ) → j < length x.parents → get_or x.parents j 0 < i) (λ i j lt. absurd (omega arith))
            (λ i lt j l. w.falling i _ (j, l, refl)) held a q.0 q.1);
        dated = all_push (λ _ x. x.date ≤ 17179869183) (λ _. omega arith) (λ a _. w.dated a) dated;
        few = all_push (λ _ x. length x.parents ≤ 64) (λ _. omega arith) (λ a _. w.few a) few;
        wide = λ a lt. each_push (λ _ x. (length x.id ≡ 20) × (length x.tree ≡ 20)) w.wide (id, tree) a (omega arith);
      }

  -- a commit with a new id more
  pub wellformed_push : Wellformed h → Absent h c.id → Proper (h ++ (c ∷ [])) → Wellformed (h ++ (c ∷ []))
  wellformed_push w absent proper =
      let long = length_push h c in
      record {
        falling = proper.falling;
        dated = proper.dated;
        few = proper.few;
        wide = proper.wide;
        distinct = λ a b la lb.
            each_push (λ i x. x.id ≡ (commit_of (h ++ (c ∷ [])) b).id → i ≡ b)
            (λ i l. each_push (λ j y. (commit_of h i).id ≡ y.id → i ≡ j) (λ j lj e. w.distinct i j l lj e) (λ e. absurd (absent i l e)) b (omega arith))
            (each_push (λ j y. c.id ≡ y.id → length h ≡ j) (λ j lj e. absurd (absent j lj (sym e))) (λ _. refl) b (omega arith))
            a (omega arith);
      }
