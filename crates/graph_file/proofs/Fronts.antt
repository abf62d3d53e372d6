-- The table of chunks by its sizes. Assumes nothing.
use Rattle.std.proofs.Common.{◌≡◌, ℕ, ◌+◌, ◌*◌, ◌<◌, ◌≤◌, Bool, true, false, cond, ltb, List, [], ◌∷◌, ◌++◌, length, codes, sym, refl, ap, ◌∙◌, ap₂, arith}
use Rattle.std.proofs.lemmas.List.{length-append}
use Rattle.std.proofs.lemmas.Bool.{lt-ltb, le-ltb, cond-true, cond-false}
use Rattle.graph_file.specs.Layout.{Layout, header, contents, has_edges, first_place, file_length}
use Rattle.graph_file.specs.declared.output.Output.{Output}
use Rattle.graph_file.specs.Outputs.{Puts}
use Rattle.graph_file.specs.Placing.{Sized, placed, front_size, file_size}
use Rattle.graph_file.specs.Words.{word, long_word}
use Rattle.graph_file.proofs.Placed.{puts_next}

pub has_edges_is : (es : List ℕ) → has_edges es ≡ ltb 0 (length es)
has_edges_is [] = refl
has_edges_is (e ∷ es) = sym (lt-ltb 0 (length (e ∷ es)) (omega arith))

module _ (b : Bool) (ids rows words : ℕ) where
  abbrev pub front : ℕ
  front = 8 + 12 * (cond b 4 3 + 1)

  abbrev pub last_entries : List ℕ
  last_entries =
      cond b (codes "EDGE" ++ long_word (front + 1024 + 20 * ids + 36 * rows)) []
      ++ (word 0 ++ long_word (front + 1024 + 20 * ids + 36 * rows + 4 * words))

  abbrev pub entries : List ℕ
  entries =
      codes "OIDF" ++ (long_word front ++ (codes "OIDL" ++ (long_word (front + 1024) ++ (codes "CDAT" ++ (long_word (front + 1024 + 20 * ids) ++ last_entries)))))

module _ (l : Layout) (commits edges : ℕ) (s : Sized l commits edges) where
  flag : has_edges l.edges ≡ ltb 0 edges
  flag = has_edges_is l.edges ∙ ap (ltb 0) s.words

  pub contents_is : contents l ≡ entries (ltb 0 edges) commits commits edges
  unfolding flag
  contents_is =
      ap (λ b. entries b (length l.ids) (length l.rows) (length l.edges)) flag
      ∙ ap (λ n. entries (ltb 0 edges) n (length l.rows) (length l.edges)) s.ids
      ∙ ap (λ n. entries (ltb 0 edges) commits n (length l.edges)) s.rows
      ∙ ap (λ n. entries (ltb 0 edges) commits commits n) s.words

  pub first_place_is : first_place l.edges ≡ front_size edges
  unfolding flag
  first_place_is = ap (λ b. 8 + 12 * (cond b 4 3 + 1)) flag

  pub file_length_is : file_length l ≡ file_size commits edges
  file_length_is = omega (arith, first_place_is, s.ids, s.rows, s.words)

-- the last rows of the table, with a row of EDGE and without
pub last_with_edges : (o p q : Output) (commits edges place size : ℕ) → 0 < edges → place ≡ front (ltb 0 edges) commits commits edges + 1024 + 20 * commits + 36 * commits → size ≡ file_size commits edges →
    Puts o p (codes "EDGE" ++ long_word place) → p.at ≡ o.at + 12 → Puts p q (word 0 ++ long_word size) → o.at ≤ length o.bytes.now → Puts o q (last_entries (ltb 0 edges) commits commits edges)
last_with_edges o p q commits edges place size lt at long a here b le =
    puts_next o p q (codes "EDGE" ++ long_word place) (word 0 ++ long_word size) a here b le
    ∙ ap₂ (λ x y. placed o.bytes.now o.at ((codes "EDGE" ++ long_word x) ++ (word 0 ++ long_word y))) at long
    ∙ ap (λ s. placed o.bytes.now o.at (s ++ (word 0 ++ long_word (file_size commits edges)))) (sym (cond-true (ltb 0 edges) _ [] (lt-ltb 0 edges lt)))

pub last_without : (o q : Output) (commits edges size : ℕ) → edges ≤ 0 → size ≡ file_size commits edges → Puts o q (word 0 ++ long_word size) →
    Puts o q (last_entries (ltb 0 edges) commits commits edges)
last_without o q commits edges size le long a =
    a ∙ ap (λ y. placed o.bytes.now o.at (word 0 ++ long_word y)) long
    ∙ ap (λ s. placed o.bytes.now o.at (s ++ (word 0 ++ long_word (file_size commits edges)))) (sym (cond-false (ltb 0 edges) (codes "EDGE" ++ long_word (front (ltb 0 edges) commits commits edges + 1024 + 20 * commits + 36 * commits)) [] (le-ltb 0 edges le)))

-- all rows of the table
pub all_entries : (o p₁ p₂ p₃ q : Output) (commits edges first : ℕ) → o.at ≤ length o.bytes.now → first ≡ front (ltb 0 edges) commits commits edges →
    Puts o p₁ (codes "OIDF" ++ long_word first) → Puts p₁ p₂ (codes "OIDL" ++ long_word (first + 1024)) → Puts p₂ p₃ (codes "CDAT" ++ long_word (first + 1024 + 20 * commits)) →
    Puts p₃ q (last_entries (ltb 0 edges) commits commits edges) → p₁.at ≡ o.at + 12 → p₂.at ≡ p₁.at + 12 → p₃.at ≡ p₂.at + 12 → Puts o q (entries (ltb 0 edges) commits commits edges)
all_entries o p₁ p₂ p₃ q commits edges first le at a b c d h₁ h₂ h₃ =
    let s₁ : List ℕ = codes "OIDF" ++ long_word first in
    let s₂ : List ℕ = codes "OIDL" ++ long_word (first + 1024) in
    let s₃ : List ℕ = codes "CDAT" ++ long_word (first + 1024 + 20 * commits) in
    let last = last_entries (ltb 0 edges) commits commits edges in
    puts_next o p₃ q ((s₁ ++ s₂) ++ s₃) last (puts_next o p₂ p₃ (s₁ ++ s₂) s₃ (puts_next o p₁ p₂ s₁ s₂ a h₁ b le) (omega arith) c le) (omega arith) d le
    ∙ ap (λ x. placed o.bytes.now o.at (((codes "OIDF" ++ long_word x) ++ (codes "OIDL" ++ long_word (x + 1024))) ++ (codes "CDAT" ++ long_word (x + 1024 + 20 * commits)) ++ last)) at

front_length : (b : Bool) (ids rows words : ℕ) → 8 + length (entries b ids rows words) ≡ 8 + 12 * (cond b 4 3 + 1)
front_length true ids rows words = refl
front_length false ids rows words = refl

pub length_front : (l : Layout) → length (header l.edges ++ contents l) ≡ first_place l.edges
unfolding front_length
length_front l =
    length-append (header l.edges) (contents l) ∙ front_length (has_edges l.edges) (length l.ids) (length l.rows) (length l.edges)
