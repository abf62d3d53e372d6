-- Numbering the file positions in the order in which they are taken out. Assumes nothing.
use Rattle.std.proofs.Common.{◌≡◌, ℕ, ◌+◌, ◌-◌, ◌<◌, true, ◌⊎◌, List, [], ◌∷◌, ◌++◌, length, get_or, set, sym, refl, ap, ◌∙◌, subst, inl, inr, ⊎_elim, arith}
use Rattle.std.proofs.lemmas.Bool.{cases_eq}
use Rattle.std.proofs.lemmas.List.{length_push, get_or_append_left, get_or_push, get_or-set_same, get_or-set_other}
use Rattle.frontier.specs.declared.elements.ByLevel.{ByLevel}
use Rattle.frontier.specs.Heaps.{Among, TakenOut}
use Rattle.graph_reader.specs.Bytes.{told_count}
use Rattle.graph_reader.specs.FileCommits.{file_commit, file_level, Sound}
use Rattle.history.proofs.Chains.{climb_over}
use Rattle.loading.specs.Waiting.{by_level, key, Waits, AllWait}
use Rattle.loading.proofs.Keys.{lexical_low, lexical_apart}
use Rattle.loading.proofs.Takes.{taken_among, taken_key, others_wait, still_waits, taken_waits, first_or_after, after_taken}

module _ (file : List ℕ) where
  -- the positions of `done` have the numbers of their places in it, w others wait, and come after them
  pub record Numbered (done places : List ℕ) (w : ℕ) (queue : List ByLevel) : Type 0 where
    pub waits : Waits file (told_count file) w queue
    pub all : length done + w ≡ told_count file
    pub placed : (a : ℕ) → a < length done → (get_or done a 0 < told_count file) × (get_or places (get_or done a 0) 0 ≡ a)
    pub sorted : (a b : ℕ) → a < b → b < length done → by_level (key file (get_or done a 0)) (key file (get_or done b 0)) ≡ true
    pub later : (a : ℕ) (y : ByLevel) → a < length done → Among y queue w → by_level (key file (get_or done a 0)) y ≡ true
    pub each : (p : ℕ) → p < told_count file → Among (key file p) queue w ⊎ ((a : ℕ) × (a < length done) × (get_or done a 0 ≡ p))

  pub numbered_none : (places : List ℕ) (queue : List ByLevel) → AllWait file (told_count file) queue → Numbered [] places (told_count file) queue
  numbered_none places queue s =
      record {
        waits = s.waits;
        all = omega arith;
        placed = λ a lt. absurd (omega arith);
        sorted = λ a b lt l. absurd (omega arith);
        later = λ a y lt u. absurd (omega arith);
        each = λ p lt. inl (s.each p lt);
      }

  -- a list with one more at its end
  module _ (done : List ℕ) (p : ℕ) where
    pub done_old : (a : ℕ) → a < length done → get_or (done ++ (p ∷ [])) a 0 ≡ get_or done a 0
    done_old a lt = get_or_append_left done (p ∷ []) 0 a lt

    pub done_new : get_or (done ++ (p ∷ [])) (length done) 0 ≡ p
    done_new = get_or_push done p 0 (length done) refl

    pub done_push : (P : ℕ → ℕ → Type 0) → ((a : ℕ) → a < length done → P a (get_or done a 0)) → P (length done) p → (a : ℕ) → a < length (done ++ (p ∷ [])) → P a (get_or (done ++ (p ∷ [])) a 0)
    done_push P old new a lt =
        ⊎_elim
        (λ e. subst (λ i. P i (get_or (done ++ (p ∷ [])) i 0)) (sym e) (subst (P (length done)) (sym done_new) new))
        (λ ne. let l : a < length done = omega (arith, length_push done p) in subst (P a) (sym (done_old a l)) (old a l))
        (cases_eq a (length done))

  -- a commit's level is above each of its parents'
  pub above_parent : Sound file → (p j : ℕ) → p < told_count file → j < length (file_commit file p).parents → file_level file (get_or (file_commit file p).parents j 0) < file_level file p
  above_parent s p j lt l =
      omega (arith, s.ruled p lt, climb_over (file_level file) (file_commit file p).parents 1 j l)

  module _ (done places : List ℕ) (w : ℕ) (old new : List ByLevel) (x : ByLevel) (s : Numbered done places w old) (long : length new ≡ length old) (t : TakenOut by_level old new w x) where
    abbrev n : ℕ
    n = told_count file

    taken : (p : ℕ) × (p < n) × (x ≡ key file p)
    taken = taken_key file n w old new x s.waits long t

    abbrev pub at : ℕ
    at = x.position

    pub at_within : at < n
    unfolding taken
    at_within = let q = taken in subst (λ y. y.position < n) (sym q.2) q.1

    pub at_key : x ≡ key file at
    unfolding taken
    at_key = let q = taken in q.2 ∙ ap (key file) (sym (ap (λ y. y.position) q.2))

    -- those that are numbered come before the one taken out
    pub done_before : (a : ℕ) → a < length done → by_level (key file (get_or done a 0)) (key file at) ≡ true
    unfolding at_key
    done_before a lt =
        subst (λ y. by_level (key file (get_or done a 0)) y ≡ true) at_key (s.later a x lt (taken_among file n w old new x s.waits long t))

    pub done_other : (a : ℕ) → a < length done → get_or done a 0 ≡ at → ⊥
    done_other a lt e =
        lexical_apart (file_level file at) at (subst (λ p. by_level (key file p) (key file at) ≡ true) e (done_before a lt))

    -- what has a lower level is numbered already
    pub lower_done : (q : ℕ) → q < n → file_level file q < file_level file at → (a : ℕ) × (a < length done) × (get_or done a 0 ≡ q)
    unfolding at_key
    lower_done q lt low =
        ⊎_elim
        (λ u.
        ⊎_elim
        (λ e. absurd (omega (arith, ap (λ y. y.level) (e ∙ at_key))))
        (λ b. absurd (omega (arith, lexical_low (file_level file at) at (file_level file q) q (subst (λ y. by_level y (key file q) ≡ true) at_key b))))
        (first_or_after file n w old new x s.waits long t (key file q) u))
        (λ d. d)
        (s.each q lt)

    abbrev more : List ℕ
    more = done ++ (at ∷ [])

    pub numbered_more : at < length places → Numbered more (set places at (length done)) (w - 1) new
    unfolding at_key at_within done_before done_other
    numbered_more room =
        let some = t.some in
        record {
          waits = taken_waits file n w old new x s.waits long t;
          all = omega (arith, length_push done at, s.all);
          placed = done_push done at (λ a p. (p < n) × (get_or (set places at (length done)) p 0 ≡ a))
              (λ a lt. ((s.placed a lt).0, get_or-set_other places at (get_or done a 0) (length done) 0 (λ e. done_other a lt e) ∙ (s.placed a lt).1))
              (at_within, get_or-set_same places at (length done) 0 room);
          sorted = λ a b lt l.
              done_push done at (λ i p. a < i → by_level (key file (get_or more a 0)) (key file p) ≡ true)
              (λ i li la. subst (λ q. by_level (key file q) (key file (get_or done i 0)) ≡ true) (sym (done_old done at a (omega arith))) (s.sorted a i la li))
              (λ la. subst (λ q. by_level (key file q) (key file at) ≡ true) (sym (done_old done at a la)) (done_before a la))
              b l lt;
          later = λ a y lt u.
              done_push done at (λ i p. by_level (key file p) y ≡ true)
              (λ i li. s.later i y li (others_wait file n w old new x s.waits long t y u))
              (subst (λ z. by_level z y ≡ true) at_key (after_taken file n w old new x s.waits long t y u))
              a lt;
          each = λ p lt.
              ⊎_elim
              (λ u.
              ⊎_elim
              (λ e. inr (length done, omega (arith, length_push done at), done_new done at ∙ sym (ap (λ y. y.position) e)))
              (λ v. inl v)
              (still_waits file n w old new x s.waits long t (key file p) u))
              (λ d. inr (d.0, omega (arith, d.1, length_push done at), done_old done at d.0 d.1 ∙ d.2))
              (s.each p lt);
        }
