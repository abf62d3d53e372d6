-- Where an id stands in the order by id. Assumes nothing.
use Rattle.std.proofs.Common.{◌≡◌, ℕ, zero, suc, ◌+◌, ◌<◌, ◌≤◌, Bool, true, false, ◌&&◌, ltb, List, [], ◌∷◌, length, get_or, take, Some, None, sym, refl, ap, ◌∙◌, subst, ⊎_elim, add-zero, arith}
use Rattle.std.specs.List.Sorted.{IsPartitionPoint, IsPartitionedBy}
use Rattle.std.proofs.lemmas.Bool.{cases_Bool, cases_eq, cases_lt, cond-true, cond-false, both_ways, lt-ltb}
use Rattle.std.proofs.lemmas.Grind.{get_or_default_zero}
use Rattle.std.proofs.lemmas.List.{get_or-take, length-take-le}
use Rattle.history.specs.declared.row.CommitRow.{CommitRow}
use Rattle.history.specs.History.{Commit, commit_of, find_from, find_id, Wellformed}
use Rattle.history.specs.Ids.{precedes, same}
use Rattle.history.specs.Order.{Splits}
use Rattle.history.specs.Tables.{row_of, Within, Rising}
use Rattle.history.proofs.Ids.{precedes_transitive, not_before_itself, same_true, same_itself}

-- no commit has the id
abbrev pub Absent : List Commit → List ℕ → Type 0
Absent h id = (a : ℕ) → a < length h → (commit_of h a).id ≡ id → ⊥

pub found_none : (h : List Commit) (n : ℕ) (id : List ℕ) → Absent h id → find_from n h id ≡ None
found_none [] n id no_one = refl
found_none (c ∷ h) n id no_one =
    cond-false _ _ _ (⊎_elim (λ e. absurd (no_one 0 (omega arith) (same_true c.id id e))) (λ e. e) (cases_Bool (same c.id id)))
    ∙ found_none h (suc n) id (λ a lt e. no_one (suc a) (omega arith) e)

pub found_at : (h : List Commit) (n k : ℕ) (id : List ℕ) → k < length h → (commit_of h k).id ≡ id → ((a : ℕ) → a < k → (commit_of h a).id ≡ id → ⊥) → find_from n h id ≡ Some (n + k)
found_at [] n k id lt e first = absurd (omega arith)
found_at (c ∷ h) n zero id lt e first =
    cond-true _ _ _ (subst (λ x. same c.id x ≡ true) e (same_itself c.id)) ∙ ap Some (sym (add-zero n))
found_at (c ∷ h) n (suc k) id lt e first =
    cond-false _ _ _ (⊎_elim (λ s. absurd (first 0 (omega arith) (same_true c.id id s))) (λ s. s) (cases_Bool (same c.id id)))
    ∙ found_at h (suc n) k id (omega arith) e (λ a l q. first (suc a) (omega arith) q)
    ∙ ap Some (let z : suc n + k ≡ n + suc k = omega arith in z)

-- the one commit that has the id is found
pub found_one : (h : List Commit) (k : ℕ) (id : List ℕ) → Wellformed h → k < length h → (commit_of h k).id ≡ id → find_id h id ≡ Some k
found_one h k id w lt e =
    found_at h 0 k id lt e (λ a l q. let z = w.distinct a k (omega arith) lt (q ∙ sym e) in omega arith)
    ∙ ap Some (let z : 0 + k ≡ k = omega arith in z)

found_not_none : (c : Commit) (h : List Commit) (n : ℕ) (id : List ℕ) → same c.id id ≡ true → find_from n (c ∷ h) id ≡ None → ⊥
found_not_none c h n id s e =
    let t = cond-true (same c.id id) (Some n) (find_from (suc n) h id) s in
    let z : ◌≡◌ {A = ℕ} 0 1 = cc (t, e) in omega arith

pub none_absent : (h : List Commit) (n : ℕ) (id : List ℕ) → find_from n h id ≡ None → Absent h id
none_absent [] n id e a lt q = omega arith
none_absent (c ∷ h) n id e zero lt q = found_not_none c h n id (subst (λ x. same c.id x ≡ true) q (same_itself c.id)) e
none_absent (c ∷ h) n id e (suc a) lt q =
    ⊎_elim
    (λ s. found_not_none c h n id s e)
    (λ s. none_absent h (suc n) id (sym (cond-false _ _ _ s) ∙ e) a (omega arith) q)
    (cases_Bool (same c.id id))

module _ (rows : List CommitRow) (order : List ℕ) (count : ℕ) (id : List ℕ) (rising : Rising rows order count) where
  abbrev id_at : ℕ → List ℕ
  id_at i = (row_of rows (get_or order i 0)).id.bytes

  module _ (within : Within order count) (listed : count ≤ length order) where
    -- whether a number is a commit's whose id comes before this one
    abbrev pub comes : ℕ → Bool
    comes a = ltb a count && precedes (row_of rows a).id.bytes id

    at : (i d : ℕ) → i < count → get_or (take count order) i d ≡ get_or order i 0
    at i d lt = get_or-take count order i d lt ∙ get_or_default_zero order i d (omega arith)

    before : (i : ℕ) → i < count → comes (get_or order i 0) ≡ precedes (id_at i) id
    before i lt = ap (λ b. b && precedes (id_at i) id) (lt-ltb (get_or order i 0) count (within i lt))

    long : length (take count order) ≡ count
    long = length-take-le count order listed

    -- the commits whose ids come before it stand in front of the others
    pub parted : IsPartitionedBy comes (take count order)
    parted i j d le lt e =
        let l : j < count = omega (arith, long) in
        let p : precedes (id_at j) id ≡ true = sym (before j l) ∙ sym (ap comes (at j d l)) ∙ e in
        ap comes (at i d (omega arith)) ∙ before i (omega arith)
        ∙ ⊎_elim
        (λ same_place. ap (λ k. precedes (id_at k) id) same_place ∙ p)
        (λ other. precedes_transitive (id_at i) (id_at j) id (rising i j (omega arith) l) p)
        (cases_eq i j)

    pub splits_at : (i : ℕ) → i ≤ count → IsPartitionPoint (λ a. comes a ≡ true) (λ a. comes a ≡ false) (take count order) i → Splits rows order count id i i
    splits_at i le halves = record {
      before = λ k lt. sym (before k (omega arith)) ∙ sym (ap comes (at k 0 (omega arith))) ∙ halves.0 k 0 (omega arith) lt;
      after = λ k ge lt. sym (before k lt) ∙ sym (ap comes (at k 0 lt)) ∙ halves.1 k 0 ge (omega (arith, long));
    }

  -- an id that is not at its place is nowhere
  pub not_there : (place : ℕ) → Splits rows order count id place place → (place < count → id_at place ≡ id → ⊥) →
      (i : ℕ) → i < count → id_at i ≡ id → ⊥
  not_there place s other_id i lt e =
      ⊎_elim
      (λ low. both_ways (precedes id id) (not_before_itself id) (subst (λ x. precedes x id ≡ true) e (s.before i low)))
      (λ high.
      ⊎_elim
      (λ same_place. other_id (omega arith) (ap id_at (sym same_place) ∙ e))
      (λ other.
      both_ways (precedes (id_at place) id) (s.after place (omega arith) (omega arith)) (subst (λ x. precedes (id_at place) x ≡ true) e (rising place i (omega arith) lt)))
      (cases_eq i place))
      (cases_lt i place)
