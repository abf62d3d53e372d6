-- The walk's invariant, from the first turn to the last. Assumes nothing.
use Rattle.std.proofs.Common.{◌≡◌, ℕ, ◌+◌, ◌-◌, ◌<◌, ◌≤◌, Bool, true, ◌⊎◌, List, length, get_or, Option, Some, None, MatchOption, sym, refl, ap, ◌∙◌, subst, subst₂, inl, inr, ⊎_elim, arith}
use Rattle.std.proofs.lemmas.Bool.{cases_eq}
use Rattle.frontier.specs.declared.elements.ByNumber.{ByNumber}
use Rattle.frontier.specs.Heaps.{Among, Distinct, TakenOut}
use Rattle.frontier.proofs.Members.{entry_among, among_more, among_less, distinct_less}
use Rattle.history.specs.Counting.{Tells}
use Rattle.history.specs.Graph.{history}
use Rattle.history.specs.History.{Parent, parents_of}
use Rattle.labels.specs.declared.kind.LabelKind.{Ghosts}
use Rattle.containment.specs.declared.question.Question.{Question}
use Rattle.containment.specs.declared.walk.Walk.{Walk}
use Rattle.containment.specs.Questions.{open_to, OnTrail}
use Rattle.containment.specs.Trails.Trail.{starts, goes}
use Rattle.containment.specs.Visits.{InQueue, Spread, Listed}
use Rattle.containment.specs.Waiting.{numbered}
use Rattle.containment.proofs.Spreads.{mark_within, waiting_marked}

-- x has been taken out of the queue, which leaves c entries in q
module _ {K L : Type 0} {kind : Ghosts K L} (w : Walk K L kind) (before : ByNumber → ByNumber → Bool) (q : List ByNumber) (c : ℕ) (x : ByNumber)
    (counted : c + 1 ≡ w.queue.count) (long : length q ≡ length w.queue.entries.now) (t : TakenOut before w.queue.entries.now q w.queue.count x) where
  less : c ≡ w.queue.count - 1
  less = omega (arith, counted)

  in_q : w.queue.count - 1 ≤ length q
  in_q = omega (arith, long, w.queue.within)

  pub marked_taken : (i : ℕ) → i < c → get_or w.marks.now (get_or q i (numbered 0)).number 0 ≡ 1
  marked_taken i l =
      let lt : i < w.queue.count - 1 = omega (arith, less) in
      waiting_marked w (get_or q i (numbered 0))
      (among_more x q w.queue.entries.now (w.queue.count - 1) w.queue.count in_q w.queue.within t.holds _ (inr (entry_among q (w.queue.count - 1) i (numbered 0) in_q lt)))

  pub distinct_taken : Distinct q c
  distinct_taken =
      subst (Distinct q) (sym less) (distinct_less x q w.queue.entries.now (w.queue.count - 1) w.queue.count in_q w.queue.within t.holds w.distinct)

  -- what is taken out has the mark 1
  pub taken_marked : get_or w.marks.now x.number 0 ≡ 1
  taken_marked = waiting_marked w x (among_more x q w.queue.entries.now (w.queue.count - 1) w.queue.count in_q w.queue.within t.holds x (inl refl))

  pub taken_within : x.number < length w.marks.now
  taken_within = mark_within w.marks.now x.number taken_marked

  -- what waited is what is taken out, or waits on
  pub taken_cases : (k : ℕ) → InQueue k w → (k ≡ x.number) ⊎ Among (numbered k) q c
  taken_cases k a =
      ⊎_elim
      (λ e. inl (ap (λ y. y.number) e))
      (λ u. inr (subst (Among (numbered k) q) (sym less) u))
      (among_less x q w.queue.entries.now (w.queue.count - 1) w.queue.count in_q w.queue.within t.holds (numbered k) a)

-- what a walk keeps of its queue is kept by the c entries that are left in q, whether one was taken out or not
module _ {K L : Type 0} {kind : Ghosts K L} (w : Walk K L kind) (before : ByNumber → ByNumber → Bool) (q : List ByNumber) (c : ℕ) where
  abbrev pub Popped : Type 0 → Option ByNumber → Type 0
  Popped Idle r = MatchOption r Idle (λ x. (c + 1 ≡ w.queue.count) × TakenOut before w.queue.entries.now q w.queue.count x)

  pub marked_popped : {Idle : Type 0} (r : Option ByNumber) → length q ≡ length w.queue.entries.now → Popped Idle r → (Idle → (w.queue.count ≡ c) × (w.queue.entries.now ≡ q)) →
      (i : ℕ) → i < c → get_or w.marks.now (get_or q i (numbered 0)).number 0 ≡ 1
  marked_popped None long u same i l =
      subst (λ l. get_or w.marks.now (get_or l i (numbered 0)).number 0 ≡ 1) (same u).1 (w.marked i (omega (arith, (same u).0)))
  marked_popped (Some x) long u same i l = marked_taken w before q c x u.0 long u.1 i l

  pub distinct_popped : {Idle : Type 0} (r : Option ByNumber) → length q ≡ length w.queue.entries.now → Popped Idle r → (Idle → (w.queue.count ≡ c) × (w.queue.entries.now ≡ q)) → Distinct q c
  distinct_popped None long u same = subst₂ Distinct (same u).1 (same u).0 w.distinct
  distinct_popped (Some x) long u same = distinct_taken w before q c x u.0 long u.1

-- each marked commit is on the trail, and waits or has its parents marked that are to be
pub record Walked {K L : Type 0} {kind : Ghosts K L} (t : Question K L kind) (w : Walk K L kind) : Type 0 where
  pub question : w.question.now ≡ t
  pub sound : (k : ℕ) → get_or w.marks.now k 0 ≡ 1 → OnTrail t k
  pub seeded : (i : ℕ) → i < length t.tips.now → open_to t (get_or t.tips.now i 0) ≡ true → t.target ≤ get_or t.tips.now i 0 → get_or w.marks.now (get_or t.tips.now i 0) 0 ≡ 1
  pub kept : (a : ℕ) → get_or w.marks.now a 0 ≡ 1 → InQueue a w ⊎ ((p : ℕ) → Parent (history t.graph.now) a p → open_to t p ≡ true → t.target ≤ p → get_or w.marks.now p 0 ≡ 1)

module _ {K L : Type 0} {kind : Ghosts K L} where
  pub walk_begins : (v w : Walk K L kind) → ((k : ℕ) → k < length v.marks.now → get_or v.marks.now k 0 ≡ 0) → Spread v.question.now.tips.now v w → Walked v.question.now w
  walk_begins v w zero_all s =
      let none : (k : ℕ) → get_or v.marks.now k 0 ≡ 1 → ⊥ = λ k e. omega (arith, e, zero_all k (mark_within v.marks.now k e)) in
      record {
        question = ap (λ t. t.now) s.question;
        sound = λ k e. ⊎_elim (λ u. absurd (none k (sym u ∙ e))) (λ u. starts u.1.1 u.1.2 u.2 u.3) (s.only k);
        seeded = λ i l o le. s.all (get_or v.question.now.tips.now i 0) (i, l, refl) o le;
        kept = λ a e. ⊎_elim (λ u. absurd (none a u)) inl (s.joins a e);
      }

  module _ (t : Question K L kind) (v : Walk K L kind) (walked : Walked t v) where
    module _ (before : ByNumber → ByNumber → Bool) (w : Walk K L kind) (x : ByNumber) (same : w.question ≡ v.question) (marks : w.marks.now ≡ v.marks.now)
        (counted : w.queue.count + 1 ≡ v.queue.count) (long : length w.queue.entries.now ≡ length v.queue.entries.now)
        (out : TakenOut before v.queue.entries.now w.queue.entries.now v.queue.count x) (ps : List ℕ) (listed : ps ≡ parents_of (history v.question.now.graph.now) x.number)
        (w' : Walk K L kind) (s : Spread ps w w') where
      parents : ps ≡ parents_of (history t.graph.now) x.number
      parents = listed ∙ ap (λ r. parents_of (history r.graph.now) x.number) walked.question

      on_question : w.question.now ≡ t
      on_question = ap (λ r. r.now) same ∙ walked.question

      only : (k : ℕ) → (get_or w'.marks.now k 0 ≡ get_or v.marks.now k 0) ⊎ ((get_or w'.marks.now k 0 ≡ 1) × Parent (history t.graph.now) x.number k × (open_to t k ≡ true) × (t.target ≤ k))
      only k =
          ⊎_elim
          (λ u. inl (u ∙ ap (λ l. get_or l k 0) marks))
          (λ u.
          inr (
            u.0,
            subst (λ l. Listed l k) parents u.1,
            subst (λ r. open_to r k ≡ true) on_question u.2,
            subst (λ r. r.target ≤ k) on_question u.3,
          ))
          (s.only k)

      still : (k : ℕ) → get_or v.marks.now k 0 ≡ 1 → get_or w'.marks.now k 0 ≡ 1
      still k e = ⊎_elim (λ u. u ∙ e) (λ u. u.0) (only k)

      all : (k : ℕ) → Parent (history t.graph.now) x.number k → open_to t k ≡ true → t.target ≤ k → get_or w'.marks.now k 0 ≡ 1
      all k par o le =
          s.all k (subst (λ l. Listed l k) (sym parents) par) (subst (λ r. open_to r k ≡ true) (sym on_question) o) (subst (λ r. r.target ≤ k) (sym on_question) le)

      pub walk_goes : Walked t w'
      walk_goes = record {
        question = ap (λ r. r.now) s.question ∙ on_question;
        sound = λ k e.
            ⊎_elim
            (λ u. walked.sound k (sym u ∙ e))
            (λ u. goes (walked.sound x.number (taken_marked v before w.queue.entries.now w.queue.count x counted long out)) u.1 u.2 u.3)
            (only k);
        seeded = λ i l o le. still _ (walked.seeded i l o le);
        kept = λ a e.
            ⊎_elim
            (λ on.
            ⊎_elim
            (λ waiting.
            ⊎_elim
            (λ is. inr (λ p par o le. all p (subst (λ y. Parent (history t.graph.now) y p) is par) o le))
            (λ on_queue. inl (s.stays a on_queue))
            (taken_cases v before w.queue.entries.now w.queue.count x counted long out a waiting))
            (λ done. inr (λ p par o le. still p (done p par o le)))
            (walked.kept a (sym (ap (λ l. get_or l a 0) marks) ∙ on)))
            inl
            (s.joins a e);
      }

    module _ (none : v.queue.count ≡ 0) where
      trail_marked : (k : ℕ) → OnTrail t k → get_or v.marks.now k 0 ≡ 1
      trail_marked k (starts {i = i} l e o le) =
          subst (λ x. get_or v.marks.now x 0 ≡ 1) e (walked.seeded i l (subst (λ x. open_to t x ≡ true) (sym e) o) (subst (λ x. t.target ≤ x) (sym e) le))
      trail_marked k (goes {a = a} r q o le) =
          ⊎_elim (λ u. absurd (omega (arith, u.1, none))) (λ done. done k q o le) (walked.kept a (trail_marked a r))

      pub walk_ends : (k : ℕ) → Tells (get_or v.marks.now k 0) (OnTrail t k)
      walk_ends k =
          ⊎_elim
          (λ e. inl (e, walked.sound k e))
          (λ ne. inr (omega (arith, v.bits k, ne), λ r. ne (trail_marked k r)))
          (cases_eq (get_or v.marks.now k 0) 1)
