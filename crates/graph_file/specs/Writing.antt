-- What writing a history answers. Assumes nothing.
use Rattle.std.specs.Prelude.{◌≡◌, ℕ, cond, List, ◌++◌, length, drop, Ok, Err, Result, nat_lt}
use Rattle.history.specs.declared.refusal.Refusal.{Refusal}
use Rattle.history.specs.declared.refusal.Refusal.TheVariants.{ResultTooShort}
use Rattle.history.specs.History.{Commit}
use Rattle.graph_file.specs.Encoding.{FileOrder, layout_of}
use Rattle.graph_file.specs.Layout.{file_bytes}

abbrev pub written_reply : ℕ → ℕ → Result ℕ Refusal
written_reply room needed = cond (nat_lt room needed) (Err (ResultTooShort needed)) (Ok needed)

-- the file in front of what stood behind it; a buffer that is too short stands
abbrev pub written : List ℕ → List ℕ → List ℕ
written bytes buffer = cond (nat_lt (length buffer) (length bytes)) buffer (bytes ++ drop (length bytes) buffer)

-- the file of the history, in a buffer, as a reply
pub record Written (h : List Commit) (buffer buffer' : List ℕ) (r : Result ℕ Refusal) : Type 0 where
  pub order : List ℕ
  pub ordered : FileOrder h order
  pub reply : r ≡ written_reply (length buffer) (length (file_bytes (layout_of h order)))
  pub bytes : buffer' ≡ written (file_bytes (layout_of h order)) buffer
