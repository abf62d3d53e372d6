-- A file as its parts. Assumes nothing.
use Rattle.std.proofs.Common.{◌≡◌, ℕ, ◌+◌, ◌*◌, ◌<◌, ◌≤◌, List, [], ◌++◌, length, get_or, sym, refl, ap, ◌∙◌, ap₂, arith}
use Rattle.std.specs.List.{range_with_len, flat_map}
use Rattle.std.proofs.lemmas.List.FromFn.{length-range_with_len}
use Rattle.std.proofs.lemmas.List.{append_assoc, length-append}
use Rattle.graph_file.specs.Layout.{Row, Layout, first_place, file_length, header, contents, fan_out, fan_out_bytes, id_bytes, data_bytes, edge_bytes, row_bytes, file_bytes}
use Rattle.graph_file.specs.declared.output.Output.{Output}
use Rattle.graph_file.specs.Outputs.{Puts}
use Rattle.graph_file.specs.Placing.{placed}
use Rattle.graph_file.specs.Words.{word}
use Rattle.graph_file.proofs.DataRows.{blank_row}
use Rattle.graph_file.proofs.EdgeWords.{length_edge_bytes}
use Rattle.graph_file.proofs.Fronts.{length_front}
use Rattle.graph_file.proofs.Placed.{puts_next, length_joined}

abbrev pub chunk_bytes : Layout → List ℕ
chunk_bytes l = fan_out_bytes l.ids ++ (id_bytes l.ids ++ (data_bytes l.rows ++ edge_bytes l.edges))

pub same_layout : {i j : List (List ℕ)} {r s : List Row} {e f : List ℕ} → i ≡ j → r ≡ s → e ≡ f →
    ◌≡◌ {A = Layout} (record { ids = i; rows = r; edges = e }) (record { ids = j; rows = s; edges = f })
same_layout a b c = cc

-- five parts, put one behind another
five_put : (o p₁ p₂ p₃ p₄ p₅ : Output) (a b c d e : List ℕ) → o.at ≤ length o.bytes.now → Puts o p₁ a → Puts p₁ p₂ b → Puts p₂ p₃ c → Puts p₃ p₄ d → Puts p₄ p₅ e →
    p₁.at ≡ o.at + length a → p₂.at ≡ p₁.at + length b → p₃.at ≡ p₂.at + length c → p₄.at ≡ p₃.at + length d → Puts o p₅ (a ++ (b ++ (c ++ (d ++ e))))
five_put o p₁ p₂ p₃ p₄ p₅ a b c d e le q₁ q₂ q₃ q₄ q₅ h₁ h₂ h₃ h₄ =
    let r₂ = puts_next o p₁ p₂ a b q₁ h₁ q₂ le in
    let r₃ = puts_next o p₂ p₃ (a ++ b) c r₂ (omega (arith, length-append a b)) q₃ le in
    let r₄ = puts_next o p₃ p₄ ((a ++ b) ++ c) d r₃ (omega (arith, length-append a b, length-append (a ++ b) c)) q₄ le in
    puts_next o p₄ p₅ (((a ++ b) ++ c) ++ d) e r₄ (omega (arith, length-append a b, length-append (a ++ b) c, length-append ((a ++ b) ++ c) d)) q₅ le
    ∙ ap (placed o.bytes.now o.at) (let z : (((a ++ b) ++ c) ++ d) ++ e ≡ a ++ (b ++ (c ++ (d ++ e))) = simp append_assoc in z)

length_fans : (ids : List (List ℕ)) (n : ℕ) → length (flat_map (λ i. word (fan_out ids i)) (range_with_len 0 n)) ≡ 4 * n
length_fans ids n = length_joined (λ i. word (fan_out ids i)) 4 0 (range_with_len 0 n) (λ _ _. refl) ∙ ap (λ k. 4 * k) (length-range_with_len 0 n)

pub length_fan_out_bytes : (ids : List (List ℕ)) → length (fan_out_bytes ids) ≡ 1024
unfolding length_fans
length_fan_out_bytes ids = length_fans ids 256

pub length_id_bytes : (ids : List (List ℕ)) → ((k : ℕ) → k < length ids → length (get_or ids k []) ≡ 20) → length (id_bytes ids) ≡ 20 * length ids
length_id_bytes ids wide = length_joined (λ id. id) 20 [] ids wide

pub length_data_bytes : (rows : List Row) → ((k : ℕ) → k < length rows → length (row_bytes (get_or rows k blank_row)) ≡ 36) → length (data_bytes rows) ≡ 36 * length rows
length_data_bytes rows wide = length_joined row_bytes 36 blank_row rows wide

four_lengths : (a b c d : List ℕ) → length (a ++ (b ++ (c ++ d))) ≡ length a + length b + length c + length d
four_lengths a b c d = omega (arith, length-append a (b ++ (c ++ d)), length-append b (c ++ d), length-append c d)

-- a layout whose ids have 20 bytes and whose rows have 36
module _ (l : Layout) (ids_wide : (k : ℕ) → k < length l.ids → length (get_or l.ids k []) ≡ 20)
    (rows_wide : (k : ℕ) → k < length l.rows → length (row_bytes (get_or l.rows k blank_row)) ≡ 36) where
  ids_long : length (id_bytes l.ids) ≡ 20 * length l.ids
  ids_long = length_id_bytes l.ids ids_wide

  rows_long : length (data_bytes l.rows) ≡ 36 * length l.rows
  rows_long = length_data_bytes l.rows rows_wide

  pub file_put : (o p₁ p₂ p₃ p₄ p₅ : Output) → o.at ≤ length o.bytes.now → Puts o p₁ (header l.edges ++ contents l) → Puts p₁ p₂ (fan_out_bytes l.ids) →
      Puts p₂ p₃ (id_bytes l.ids) → Puts p₃ p₄ (data_bytes l.rows) → Puts p₄ p₅ (edge_bytes l.edges) → p₁.at ≡ o.at + first_place l.edges → p₂.at ≡ p₁.at + 1024 →
      p₃.at ≡ p₂.at + 20 * length l.ids → p₄.at ≡ p₃.at + 36 * length l.rows → Puts o p₅ (file_bytes l)
  unfolding five_put ids_long rows_long
  file_put o p₁ p₂ p₃ p₄ p₅ le q₁ q₂ q₃ q₄ q₅ h₁ h₂ h₃ h₄ =
      five_put o p₁ p₂ p₃ p₄ p₅ (header l.edges ++ contents l) (fan_out_bytes l.ids) (id_bytes l.ids) (data_bytes l.rows) (edge_bytes l.edges) le q₁ q₂ q₃ q₄ q₅
      (h₁ ∙ ap (λ n. o.at + n) (sym (length_front l))) (h₂ ∙ ap (λ n. p₁.at + n) (sym (length_fan_out_bytes l.ids))) (h₃ ∙ ap (λ n. p₂.at + n) (sym ids_long))
      (h₄ ∙ ap (λ n. p₃.at + n) (sym rows_long))
      ∙ ap (placed o.bytes.now o.at) (append_assoc (header l.edges) (contents l) (chunk_bytes l))

  pub chunks_long : length (chunk_bytes l) ≡ 1024 + 20 * length l.ids + 36 * length l.rows + 4 * length l.edges
  unfolding four_lengths ids_long rows_long
  chunks_long =
      four_lengths (fan_out_bytes l.ids) (id_bytes l.ids) (data_bytes l.rows) (edge_bytes l.edges)
      ∙ ap₂ (λ x y. x + y) (ap₂ (λ x y. x + y) (ap₂ (λ x y. x + y) (length_fan_out_bytes l.ids) ids_long) rows_long) (length_edge_bytes l.edges)

  pub file_bytes_length : length (file_bytes l) ≡ file_length l
  file_bytes_length =
      ap length (sym (append_assoc (header l.edges) (contents l) (chunk_bytes l))) ∙ length-append (header l.edges ++ contents l) (chunk_bytes l)
      ∙ ap₂ (λ x y. x + y) (length_front l) chunks_long
      ∙ (let z : first_place l.edges + (1024 + 20 * length l.ids + 36 * length l.rows + 4 * length l.edges) ≡ file_length l = omega arith in z)
