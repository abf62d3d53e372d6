-- The labels of a history, by what a label kind makes. Assumes nothing.
use Rattle.std.specs.Prelude.{ℕ, List, [], ◌∷◌, ◌++◌, length, fold, slice_index_or}
use Rattle.history.specs.History.{Commit}

module _ {L : Type 0} (start : ℕ → ℕ → L) (grown : L → L → L) where
  -- the label of a commit that comes after those whose labels are ls: its first label, grown by each parent's label in list order
  abbrev pub made : List L → ℕ → List ℕ → L
  made ls date parents =
      fold (λ x p. grown x (slice_index_or ls p (start (length ls) date))) (start (length ls) date) parents

  abbrev pub labels_after : List L → List Commit → List L
  labels_after ls [] = ls
  labels_after ls (c ∷ h) = labels_after (ls ++ (made ls c.date c.parents ∷ [])) h

  abbrev pub labels_of : List Commit → List L
  labels_of h = labels_after [] h
