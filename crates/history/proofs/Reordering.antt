-- The order by id written anew, over the front of its table. Assumes nothing.
use Rattle.std.proofs.Common.{◌≡◌, ℕ, ◌<◌, true, List, ◌++◌, length, get_or, sym, ◌∙◌, subst₂, arith}
use Rattle.std.proofs.lemmas.List.{get_or_append_left}
use Rattle.history.specs.declared.row.CommitRow.{CommitRow}
use Rattle.history.specs.Ids.{precedes}
use Rattle.history.specs.Tables.{row_of, Rising, Complete}

module _ (s rest : List ℕ) (n : ℕ) (long : length s ≡ n) where
  at : (i : ℕ) → i < n → get_or (s ++ rest) i 0 ≡ get_or s i 0
  at i lt = get_or_append_left s rest 0 i (omega arith)

  pub rising_front : (rows : List CommitRow) → Rising rows s n → Rising rows (s ++ rest) n
  rising_front rows rising i j lt l =
      subst₂ (λ x y. precedes (row_of rows x).id.bytes (row_of rows y).id.bytes ≡ true) (sym (at i (omega arith))) (sym (at j l)) (rising i j lt l)

  pub complete_front : Complete s n → Complete (s ++ rest) n
  complete_front complete a lt = let q = complete a lt in (q.0, q.1, at q.0 q.1 ∙ q.2)
