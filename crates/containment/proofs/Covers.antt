-- Labels that a lawful kind makes cover: each allows the labels of its commit's parents. Assumes nothing.
use Rattle.std.proofs.Common.{◌≡◌, ℕ, zero, suc, ◌<◌, Bool, true, List, [], ◌∷◌, length, get_or, take, fold, sym, ap, ◌∙◌, ap₂, subst, ⊎_elim, arith}
use Rattle.std.proofs.lemmas.Bool.{cases_lt}
use Rattle.std.proofs.lemmas.List.{get_or-take, get_or_default, get_or_past}
use Rattle.labels.specs.Laws.{Laws}
use Rattle.labels.specs.declared.kind.LabelKind.{Ghosts}
use Rattle.history.specs.declared.graph.CommitGraph.{CommitGraph}
use Rattle.history.specs.Graph.{history, labels}
use Rattle.history.specs.History.{Commit, no_commit, commit_of, parents_of, Parent}
use Rattle.history.specs.Labels.{labels_of}
use Rattle.history.proofs.Chains.{label_at, length_labels}
use Rattle.containment.specs.Trails.{Covers}

module _ {L : Type 0} (start : ℕ → ℕ → L) (grown : L → L → L) (allows : L → L → Bool) (laws : Laws grown allows) where
  -- a label that is grown from the labels of some parents allows what it allowed, and each of theirs
  fold_kept : (label : ℕ → L) (ps : List ℕ) (x q : L) → allows x q ≡ true → allows (fold (λ y p. grown y (label p)) x ps) q ≡ true
  fold_kept label [] x q w = w
  fold_kept label (p ∷ ps) x q w = fold_kept label ps (grown x (label p)) q (laws.kept x (label p) q w)

  fold_over : (label : ℕ → L) (ps : List ℕ) (x : L) (j : ℕ) → j < length ps →
      allows (fold (λ y p. grown y (label p)) x ps) (label (get_or ps j 0)) ≡ true
  fold_over label [] x j lt = absurd (omega arith)
  fold_over label (p ∷ ps) x zero lt = fold_kept label ps (grown x (label p)) (label p) (laws.over x (label p))
  fold_over label (p ∷ ps) x (suc j) lt = fold_over label ps (grown x (label p)) j (omega arith)

  pub made_covers : (d : L) (h : List Commit) → ((a p : ℕ) → Parent h a p → p < a) → Covers allows d h (labels_of start grown h)
  made_covers d h falling a p q =
      let ls = labels_of start grown h in
      ⊎_elim
      (λ lt.
      let cut = take a ls in
      let s = start (length cut) (commit_of h a).date in
      let low = falling a p q in
      let long = length_labels start grown [] h in
      let there : get_or cut (get_or (parents_of h a) q.0 0) s ≡ get_or ls p d =
      ap (λ x. get_or cut x s) q.2 ∙ get_or-take a ls p s low ∙ get_or_default ls p s d (omega arith) in
      ap₂ allows (label_at start grown h a d lt) (sym there) ∙ fold_over (λ x. get_or cut x s) (parents_of h a) s q.0 q.1)
      (λ ge. absurd (omega (arith, ap (λ x. length x.parents) (get_or_past h a no_commit ge), q.1)))
      (cases_lt a (length h))

-- the labels that a graph holds are made
pub graph_covers : {K L : Type 0} {kind : Ghosts K L} (laws : Laws kind.grown kind.allows) (g : CommitGraph K L kind) (d : L) → Covers kind.allows d (history g) (labels g)
graph_covers {kind = kind} laws g d =
    subst (Covers kind.allows d (history g)) (sym g.computed.labels) (made_covers kind.start kind.grown kind.allows laws d (history g) g.proper.falling)
