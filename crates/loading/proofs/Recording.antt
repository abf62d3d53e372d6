-- The commits that have been numbered, as a history. Assumes nothing.
use Rattle.std.proofs.Common.{◌≡◌, ℕ, ◌<◌, ◌≤◌, true, List, [], ◌∷◌, ◌++◌, length, get_or, set, None, fold, sym, refl, ap, ◌∙◌, subst, ⊎_elim, arith}
use Rattle.std.proofs.lemmas.Bool.{cases_order, both_ways}
use Rattle.std.proofs.lemmas.List.{length_push, get_or_append_left, get_or_push, get_or-set_other, get_or_default}
use Rattle.frontier.specs.declared.elements.ByLevel.{ByLevel}
use Rattle.frontier.specs.Heaps.{TakenOut}
use Rattle.graph_reader.specs.Bytes.{told_count}
use Rattle.graph_reader.specs.FileCommits.{file_commit, file_level, renumbered, Sound}
use Rattle.graph_reader.proofs.Renumbering.{climbed_same, climbed_map}
use Rattle.history.specs.Generations.{above, levels_of}
use Rattle.history.specs.History.{Commit, commit_of, find_id}
use Rattle.history.specs.Ids.{precedes}
use Rattle.history.specs.Labels.{made}
use Rattle.history.proofs.Adding.{commit_old, commit_new}
use Rattle.history.proofs.Chains.{length_labels, labels_push}
use Rattle.history.proofs.Finding.{found_none}
use Rattle.history.proofs.Ids.{not_before_itself}
use Rattle.loading.specs.Waiting.{by_level}
use Rattle.loading.proofs.Keys.{lexical_low}
use Rattle.loading.proofs.Lists.{same_numbers}
use Rattle.loading.proofs.Numbering.{Numbered, above_parent, at_within, done_before, done_other, lower_done, done_push}

-- the level of a commit that comes last
last_level : (h : List Commit) (c : Commit) → get_or (levels_of (h ++ (c ∷ []))) (length h) 0 ≡ fold (λ x q. above x (get_or (levels_of h) q 1)) 1 c.parents
last_level h c =
    let start : ℕ → ℕ → ℕ = λ _ _. 1 in
    let ls = levels_of h in
    let x = made start above ls c.date c.parents in
    ap (λ l. get_or l (length h) 0) (labels_push start above [] h c) ∙ get_or_push ls x 0 (length h) (let z : length ls ≡ length h = omega (arith, length_labels start above [] h) in z)

old_level : (h : List Commit) (c : Commit) (a : ℕ) → a < length h → get_or (levels_of (h ++ (c ∷ []))) a 0 ≡ get_or (levels_of h) a 0
old_level h c a lt =
    let start : ℕ → ℕ → ℕ = λ _ _. 1 in
    ap (λ l. get_or l a 0) (labels_push start above [] h c) ∙ get_or_append_left (levels_of h) _ 0 a (omega (arith, length_labels start above [] h))

module _ (file : List ℕ) where
  -- commit a of the history is that at position `done a` of the file, with its level
  pub record Recorded (h : List Commit) (done places : List ℕ) : Type 0 where
    pub long : length h ≡ length done
    pub commit : (a : ℕ) → a < length done → commit_of h a ≡ renumbered places (file_commit file (get_or done a 0))
    pub level : (a : ℕ) → a < length done → get_or (levels_of h) a 0 ≡ file_level file (get_or done a 0)

  pub recorded_none : (places : List ℕ) → Recorded [] [] places
  recorded_none places = record { long = refl; commit = λ a lt. absurd (omega arith); level = λ a lt. absurd (omega arith) }

  -- two positions of a sound file have different ids
  pub ids_differ : Sound file → (p q : ℕ) → p < told_count file → q < told_count file → (file_commit file p).id ≡ (file_commit file q).id → p ≡ q
  ids_differ s p q lp lq e =
      ⊎_elim
      (λ same. same)
      (λ r. ⊎_elim (λ lt. absurd (clash p q lt lq e)) (λ gt. absurd (clash q p gt lp (sym e))) r)
      (cases_order p q)
    where
      clash : (i j : ℕ) → i < j → j < told_count file → (file_commit file i).id ≡ (file_commit file j).id → ⊥
      clash i j lt l same =
          both_ways (precedes (file_commit file j).id (file_commit file j).id) (not_before_itself (file_commit file j).id)
          (subst (λ x. precedes x (file_commit file j).id ≡ true) same (s.rising i j lt l))

  module _ (sound : Sound file) (done places : List ℕ) (w : ℕ) (old new : List ByLevel) (x : ByLevel) (s : Numbered file done places w old) (long : length new ≡ length old)
      (t : TakenOut by_level old new w x) where
    abbrev p : ℕ
    p = x.position

    abbrev ps : List ℕ
    ps = (file_commit file p).parents

    within : p < told_count file
    within = at_within file done places w old new x s long t

    -- each parent has its number
    pub parent_done : (j : ℕ) → j < length ps → (a : ℕ) × (a < length done) × (get_or done a 0 ≡ get_or ps j 0)
    unfolding within
    parent_done j lt =
        lower_done file done places w old new x s long t (get_or ps j 0) (sound.held p j within lt) (above_parent file sound p j within lt)

    pub parent_numbered : (j : ℕ) → j < length ps → get_or places (get_or ps j 0) 0 < length done
    parent_numbered j lt =
        let d = parent_done j lt in
        subst (λ q. get_or places q 0 < length done) d.2 (omega (arith, (s.placed d.0 d.1).1, d.1))

    -- the new number changes no parent's
    others_stand : (q : ℕ) → q < told_count file → file_level file q ≤ file_level file p → (j : ℕ) → j < length (file_commit file q).parents →
        get_or (set places p (length done)) (get_or (file_commit file q).parents j 0) 0 ≡ get_or places (get_or (file_commit file q).parents j 0) 0
    others_stand q lt low j l =
        let r = get_or (file_commit file q).parents j 0 in
        let less = above_parent file sound q j lt l in
        get_or-set_other places p r (length done) 0 (λ e. omega (arith, less, ap (file_level file) e))

    renumbered_stands : (q : ℕ) → q < told_count file → file_level file q ≤ file_level file p →
        renumbered places (file_commit file q) ≡ renumbered (set places p (length done)) (file_commit file q)
    unfolding others_stand
    renumbered_stands q lt low =
        sym (same_numbers (set places p (length done)) places (file_commit file q) (others_stand q lt low))

    module _ (h : List Commit) (r : Recorded h done places) where
      pub fresh : find_id h (file_commit file p).id ≡ None
      unfolding within
      fresh =
          found_none h 0 (file_commit file p).id
          (λ a lt e.
          let l : a < length done = omega (arith, r.long) in
          done_other file done places w old new x s long t a l
          (ids_differ sound (get_or done a 0) p (s.placed a l).0 within (sym (ap (λ c. c.id) (r.commit a l)) ∙ e)))

      abbrev pub next : Commit
      next = renumbered places (file_commit file p)

      pub recorded_more : Recorded (h ++ (next ∷ [])) (done ++ (p ∷ [])) (set places p (length done))
      unfolding within renumbered_stands last_level old_level
      recorded_more =
          let places' = set places p (length done) in
          record {
            long = omega (arith, length_push h next, length_push done p, r.long);
            commit = done_push file done p (λ a q. commit_of (h ++ (next ∷ [])) a ≡ renumbered places' (file_commit file q))
                (λ a lt.
                commit_old h next a (omega (arith, r.long)) ∙ r.commit a lt
                ∙ renumbered_stands (get_or done a 0) (s.placed a lt).0 (lexical_low _ _ _ _ (done_before file done places w old new x s long t a lt)))
                (subst (λ i. commit_of (h ++ (next ∷ [])) i ≡ renumbered places' (file_commit file p)) r.long (commit_new h next ∙ renumbered_stands p within (omega arith)));
            level = done_push file done p (λ a q. get_or (levels_of (h ++ (next ∷ []))) a 0 ≡ file_level file q)
                (λ a lt. old_level h next a (omega (arith, r.long)) ∙ r.level a lt)
                (subst (λ i. get_or (levels_of (h ++ (next ∷ []))) i 0 ≡ file_level file p) r.long
                (last_level h next
                ∙ climbed_map (λ q. get_or (levels_of h) q 1) (λ q. get_or places q 0) ps 1
                ∙ climbed_same (λ q. get_or (levels_of h) (get_or places q 0) 1) (file_level file) ps 1
                (λ j lt.
                let d = parent_done j lt in
                let n = get_or places (get_or ps j 0) 0 in
                let is : n ≡ d.0 = ap (λ q. get_or places q 0) (sym d.2) ∙ (s.placed d.0 d.1).1 in
                get_or_default (levels_of h) n 1 0 (omega (arith, length_labels (λ _ _. 1) above [] h, parent_numbered j lt, r.long))
                ∙ ap (λ a. get_or (levels_of h) a 0) is ∙ r.level d.0 d.1 ∙ ap (file_level file) d.2)
                ∙ sym (sound.ruled p within)));
          }
