-- The labels of a history, one by one; levels and corrected dates by chains of parents. Assumes nothing.
use Rattle.std.proofs.Common.{◌≡◌, ℕ, zero, suc, ◌+◌, ◌<◌, ◌≤◌, ◌⊎◌, List, [], ◌∷◌, ◌++◌, length, get_or, take, fold, sym, refl, ap, ◌∙◌, subst, inl, inr, ⊎_elim, arith}
use Rattle.std.proofs.lemmas.Bool.{cases_lt}
use Rattle.std.proofs.lemmas.List.{append-nil, append_assoc, get_or_at, take_at, length_push, get_or-take, get_or_default}
use Rattle.history.specs.History.{Commit, commit_of, parents_of, Parent, Chain, Reaches}
use Rattle.history.specs.History.Chain.{here, onward}
use Rattle.history.specs.Labels.{made, labels_after, labels_of}
use Rattle.history.specs.Generations.{above, Greatest}

module _ {L : Type 0} (start : ℕ → ℕ → L) (grown : L → L → L) where
  pub length_labels : (ls : List L) (h : List Commit) → length (labels_after start grown ls h) ≡ length ls + length h
  length_labels ls [] = omega arith
  length_labels ls (c ∷ h) =
      let m = made start grown ls c.date c.parents in omega (arith, length_labels (ls ++ (m ∷ [])) h, length_push ls m)

  pub labels_push : (ls : List L) (h : List Commit) (c : Commit) →
      labels_after start grown ls (h ++ (c ∷ [])) ≡ labels_after start grown ls h ++ (made start grown (labels_after start grown ls h) c.date c.parents ∷ [])
  labels_push ls [] c = refl
  labels_push ls (x ∷ h) c = labels_push (ls ++ (made start grown ls x.date x.parents ∷ [])) h c

  starting : (ls : List L) (h : List Commit) → (r : List L) × (labels_after start grown ls h ≡ ls ++ r)
  starting ls [] = ([], sym (append-nil ls))
  starting ls (c ∷ h) =
      let m = made start grown ls c.date c.parents in
      let q = starting (ls ++ (m ∷ [])) h in
      (m ∷ q.0, q.1 ∙ append_assoc ls (m ∷ []) q.0)

  label_from : (h : List Commit) (ls : List L) (i n : ℕ) (d : L) → n ≡ length ls + i → i < length h →
      get_or (labels_after start grown ls h) n d ≡ made start grown (take n (labels_after start grown ls h)) (commit_of h i).date (parents_of h i)
  unfolding starting
  label_from [] ls i n d e l = absurd (omega arith)
  label_from (c ∷ h) ls zero n d e l =
      let m = made start grown ls c.date c.parents in
      let q = starting ls (c ∷ h) in
      let r = (starting (ls ++ (m ∷ [])) h).0 in
      let en : length ls ≡ n = omega arith in
      ap (λ x. get_or x n d) q.1 ∙ get_or_at ls m r d n en
      ∙ sym (ap (λ x. made start grown (take n x) c.date c.parents) q.1 ∙ ap (λ x. made start grown x c.date c.parents) (take_at ls (m ∷ r) n en))
  label_from (c ∷ h) ls (suc i) n d e l =
      let m = made start grown ls c.date c.parents in
      label_from h (ls ++ (m ∷ [])) i n d (omega (arith, length_push ls m)) (omega arith)

  -- each label is made from those before it
  pub label_at : (h : List Commit) (a : ℕ) (d : L) → a < length h →
      get_or (labels_of start grown h) a d ≡ made start grown (take a (labels_of start grown h)) (commit_of h a).date (parents_of h a)
  unfolding label_from
  label_at h a d lt = label_from h [] a a d (omega arith) lt

-- a fold that takes the greater of what it has and one more than each parent's value
module _ (value : ℕ → ℕ) where
  abbrev climb : ℕ → List ℕ → ℕ
  climb s ps = fold (λ x p. above x (value p)) s ps

  climb_from : (ps : List ℕ) (s : ℕ) → s ≤ climb s ps
  climb_from [] s = omega arith
  climb_from (p ∷ ps) s = omega (arith, climb_from ps (above s (value p)))

  pub climb_over : (ps : List ℕ) (s j : ℕ) → j < length ps → value (get_or ps j 0) + 1 ≤ climb s ps
  climb_over [] s j lt = absurd (omega arith)
  climb_over (p ∷ ps) s zero lt = omega (arith, climb_from ps (above s (value p)))
  climb_over (p ∷ ps) s (suc j) lt = climb_over ps (above s (value p)) j (omega arith)

  abbrev Attains : ℕ → List ℕ → Type 0
  Attains s ps = (climb s ps ≡ s) ⊎ ((j : ℕ) × (j < length ps) × (climb s ps ≡ value (get_or ps j 0) + 1))

  climb_attains : (ps : List ℕ) (s : ℕ) → Attains s ps
  climb_attains [] s = inl refl
  climb_attains (p ∷ ps) s =
      ⊎_elim
      (λ e. ⊎_elim
      (λ lt. inr (0, omega arith, omega arith))
      (λ ge. inl (omega arith))
      (cases_lt s (value p + 1)))
      (λ q. inr (suc q.0, omega arith, q.2))
      (climb_attains ps (above s (value p)))

module _ (h : List Commit) (falling : (a p : ℕ) → Parent h a p → p < a) (f : ℕ → ℕ) where
  abbrev values : List ℕ
  values = labels_of (λ _ date. f date) above h

  bounds_at : (a v : ℕ) → f (commit_of h a).date ≤ v → ((p b k : ℕ) → Parent h a p → Chain h p b k → f (commit_of h b).date + suc k ≤ v) →
      (b k : ℕ) → Chain h a b k → f (commit_of h b).date + k ≤ v
  bounds_at a v own under b k here = omega arith
  bounds_at a v own under b k (onward {p = p} {k = j} q ch) = under p b j q ch

  greatest_below : (n a : ℕ) → a < n → a < length h → Greatest h (λ c. f c.date) a (get_or values a 0)
  unfolding bounds_at
  greatest_below zero a low lt = absurd (omega arith)
  greatest_below (suc n) a low lt =
      let s = f (commit_of h a).date in
      let ps = parents_of h a in
      let value : ℕ → ℕ = λ p. get_or (take a values) p s in
      let long = length_labels (λ _ date. f date) above [] h in
      let is : get_or values a 0 ≡ climb value s ps = label_at (λ _ date. f date) above h a 0 lt in
      let of_parent : (j : ℕ) → j < length ps → value (get_or ps j 0) ≡ get_or values (get_or ps j 0) 0 =
      λ j l. let less = falling a (get_or ps j 0) (j, l, refl) in
      get_or-take a values (get_or ps j 0) s less ∙ get_or_default values (get_or ps j 0) s 0 (omega arith) in
      let under : (p : ℕ) → Parent h a p → Greatest h (λ c. f c.date) p (get_or values p 0) =
      λ p q. let less = falling a p q in greatest_below n p (omega arith) (omega arith) in
      let over : (p : ℕ) → Parent h a p → get_or values p 0 + 1 ≤ get_or values a 0 =
      λ p q. subst (λ x. get_or values x 0 + 1 ≤ get_or values a 0) q.2
      (omega (arith, is, of_parent q.0 q.1, climb_over value ps s q.0 q.1)) in
      record {
        attained = ⊎_elim
            (λ e. (a, 0, here, omega arith))
            (λ q.
            let p = get_or ps q.0 0 in
            let w : Parent h a p = (q.0, q.1, refl) in
            let best = (under p w).attained in
            (best.0, suc best.1, onward {p = p} {b = best.0} {k = best.1} w best.2, omega (arith, is, q.2, of_parent q.0 q.1, best.3)))
            (climb_attains value ps s);
        bounds = bounds_at a (get_or values a 0) (omega (arith, is, climb_from value ps s))
            (λ p b k q ch. omega (arith, over p q, (under p q).bounds b k ch));
      }

  -- each value is the greatest over the chains of parents from its commit
  pub greatest : (a : ℕ) → a < length h → Greatest h (λ c. f c.date) a (get_or values a 0)
  greatest a lt = greatest_below (suc a) a (omega arith) lt

-- chains one after the other
pub chain_on : (h : List Commit) (x y z i j : ℕ) → Chain h x y i → Chain h y z j → Reaches h x z
chain_on h x y z i j here d = (j, d)
chain_on h x y z i j (onward {p = p} {k = k} q c) d = let r = chain_on h p y z k j c d in (suc r.0, onward q r.1)

pub reaches_on : (h : List Commit) (x y z : ℕ) → Reaches h x y → Reaches h y z → Reaches h x z
reaches_on h x y z r s = chain_on h x y z r.0 s.0 r.1 s.1

-- where parents come before their children, a chain never rises
pub chain_falls : (h : List Commit) → ((a p : ℕ) → Parent h a p → p < a) → (x k j : ℕ) → Chain h x k j → k ≤ x
chain_falls h falling x k j here = omega arith
chain_falls h falling x k j (onward {p = p} {k = i} q c) = omega (arith, falling x p q, chain_falls h falling p k i c)
