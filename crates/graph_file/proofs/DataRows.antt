-- The rows of CDAT. Assumes nothing.
use Rattle.std.proofs.Common.{◌≡◌, ℕ, zero, suc, ◌+◌, ◌/◌, ◌%◌, ◌<◌, List, [], ◌∷◌, ◌++◌, length, get_or, take, sym, refl, ap, ◌∙◌, arith}
use Rattle.std.proofs.lemmas.List.{append_assoc, length-append}
use Rattle.history.specs.History.{Commit, commit_of, parents_of}
use Rattle.graph_file.specs.Encoding.{FileOrder, row_of_commit, rows_from, extra}
use Rattle.graph_file.specs.Layout.{Row, row_bytes}
use Rattle.graph_file.specs.declared.output.Output.{Output}
use Rattle.graph_file.specs.Outputs.{Puts, Room}
use Rattle.graph_file.specs.Placing.{placed, extras}
use Rattle.graph_file.specs.Words.{word}
use Rattle.graph_file.proofs.Placed.{puts_next}

abbrev pub blank_row : Row
blank_row = record { tree = []; first = 0; second = 0; generation = 0; low = 0 }

pub row_wide : (r : Row) → length r.tree ≡ 20 → length (row_bytes r) ≡ 36
row_wide r e =
    length-append r.tree (word r.first ++ (word r.second ++ (word r.generation ++ word r.low))) ∙ ap (λ n. n + 16) e

pub same_row : {t u : List ℕ} {a a' b b' c c' d d' : ℕ} → t ≡ u → a ≡ a' → b ≡ b' → c ≡ c' → d ≡ d' →
    ◌≡◌ {A = Row} (record { tree = t; first = a; second = b; generation = c; low = d }) (record { tree = u; first = a'; second = b'; generation = c'; low = d' })
same_row t a b c d = cc

-- the parts of a row, put one behind another
pub row_put : (o p₁ p₂ p₃ p₄ p₅ : Output) (tree first second generation low : List ℕ) → Room o 36 → length tree ≡ 20 → length first ≡ 4 → length second ≡ 4 → length generation ≡ 4 →
    Puts o p₁ tree → Puts p₁ p₂ first → Puts p₂ p₃ second → Puts p₃ p₄ generation → Puts p₄ p₅ low →
    p₁.at ≡ o.at + 20 → p₂.at ≡ p₁.at + 4 → p₃.at ≡ p₂.at + 4 → p₄.at ≡ p₃.at + 4 → Puts o p₅ (tree ++ (first ++ (second ++ (generation ++ low))))
row_put o p₁ p₂ p₃ p₄ p₅ tree first second generation low room wide l₁ l₂ l₃ a b c d e h₁ h₂ h₃ h₄ =
    let q₂ = puts_next o p₁ p₂ tree first a (omega arith) b (omega arith) in
    let q₃ = puts_next o p₂ p₃ (tree ++ first) second q₂ (omega (arith, length-append tree first)) c (omega arith) in
    let q₄ = puts_next o p₃ p₄ ((tree ++ first) ++ second) generation q₃ (omega (arith, length-append tree first, length-append (tree ++ first) second)) d (omega arith) in
    puts_next o p₄ p₅ (((tree ++ first) ++ second) ++ generation) low q₄
    (omega (arith, length-append tree first, length-append (tree ++ first) second, length-append ((tree ++ first) ++ second) generation)) e (omega arith)
    ∙ ap (placed o.bytes.now o.at) (let z : (((tree ++ first) ++ second) ++ generation) ++ low ≡ tree ++ (first ++ (second ++ (generation ++ low))) = simp append_assoc in z)

pub same_bytes : {t u a b c d a' b' c' d' : List ℕ} → t ≡ u → a ≡ a' → b ≡ b' → c ≡ c' → d ≡ d' → t ++ (a ++ (b ++ (c ++ d))) ≡ u ++ (a' ++ (b' ++ (c' ++ d')))
same_bytes t a b c d = cc

-- a word has the low 32 bits
pub word_low : (x : ℕ) → word (x % 4294967296) ≡ word x
word_low x =
    let p : x % 4294967296 / 16777216 % 256 ≡ x / 16777216 % 256 = omega arith in
    let q : x % 4294967296 / 65536 % 256 ≡ x / 65536 % 256 = omega arith in
    let r : x % 4294967296 / 256 % 256 ≡ x / 256 % 256 = omega arith in
    let s : x % 4294967296 % 256 ≡ x % 256 = omega arith in
    cc

module _ (h : List Commit) (order : List ℕ) where
  pub length_rows : (ns : List ℕ) (start : ℕ) → length (rows_from h order start ns) ≡ length ns
  length_rows [] start = refl
  length_rows (n ∷ ns) start = ap suc (length_rows ns (start + extra (parents_of h n)))

  pub row_at : (ns : List ℕ) (start i : ℕ) → i < length ns →
      get_or (rows_from h order start ns) i blank_row ≡ row_of_commit h order (get_or ns i 0) (start + extras h (take i ns))
  row_at [] start i lt = absurd (omega arith)
  row_at (n ∷ ns) start zero lt = ap (row_of_commit h order n) (let z : start ≡ start + 0 = omega arith in z)
  row_at (n ∷ ns) start (suc i) lt =
      row_at ns (start + extra (parents_of h n)) i (omega arith)
      ∙ ap (row_of_commit h order (get_or ns i 0))
      (let z : start + extra (parents_of h n) + extras h (take i ns) ≡ start + (extra (parents_of h n) + extras h (take i ns)) = omega arith in z)

  pub next_row : (n start place : ℕ) → place < length order → n ≡ get_or order place 0 → start ≡ extras h (take place order) →
      row_bytes (row_of_commit h order n start) ≡ row_bytes (get_or (rows_from h order 0 order) place blank_row)
  next_row n start place lt is from =
      ap (λ m. row_bytes (row_of_commit h order m start)) is
      ∙ ap (λ x. row_bytes (row_of_commit h order (get_or order place 0) x)) (from ∙ (let z : extras h (take place order) ≡ 0 + extras h (take place order) = omega arith in z))
      ∙ sym (ap row_bytes (row_at order 0 place lt))

  -- a tree's id has 20 bytes, and so a row 36
  module _ (s : FileOrder h order) (wide : (a : ℕ) → a < length h → (length (commit_of h a).id ≡ 20) × (length (commit_of h a).tree ≡ 20)) where
    pub trees_wide : (k : ℕ) → k < length (rows_from h order 0 order) → length (get_or (rows_from h order 0 order) k blank_row).tree ≡ 20
    trees_wide k lt =
        let long = length_rows order 0 in
        ap (λ r. length r.tree) (row_at order 0 k (omega arith)) ∙ (wide (get_or order k 0) (s.held k (omega arith))).1

    pub rows_wide : (k : ℕ) → k < length (rows_from h order 0 order) → length (row_bytes (get_or (rows_from h order 0 order) k blank_row)) ≡ 36
    rows_wide k lt = row_wide (get_or (rows_from h order 0 order) k blank_row) (trees_wide k lt)
