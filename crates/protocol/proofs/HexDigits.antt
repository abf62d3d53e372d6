-- What decoding a text of hex digits gives, digit by digit.
use Rattle.std.proofs.Common.{◌≡◌, ℕ, zero, suc, ◌+◌, ◌-◌, ◌*◌, ◌%◌, ◌<◌, true, List, [], ◌∷◌, length, slice_index, Some, Result, Ok, Err, inl, inr, refl, ap, ◌∙◌, arith}
use Rattle.std.specs.Prelude.{IsOk, MatchOption}
use Rattle.std.specs.Char.{digit_value}
use Rattle.std.specs.List.{AllPass}
use Rattle.std.specs.Result.{result_ok, result_unwrap_or}
use Rattle.std.proofs.lemmas.Bool.{cases_lt, le-ltb, lt-ltb}
use Rattle.std.proofs.lemmas.List.Elements.{All-from_get_or, All-get_or, All-head, All-tail}
use Rattle.hex.specs.Hex.{decode_pairs, decode_sized, hex_digit_value, is_hex_digit, pair_value}
use Rattle.hex.specs.declared.error.FromHexError.{FromHexError}
use Rattle.hex.proofs.HexLemmas.{IsOk-decode_sized}
use Rattle.hex.proofs.Pairs.{cons_byte, decode_pairs-ok_pair, decode_sized-pairs}
use Rattle.protocol.specs.Words.{Hex, Spells}

-- the fact of `AllPass is_hex_digit`
abbrev digit_holds : ℕ → Type 0
digit_holds c = is_hex_digit c ≡ true

digit-from_below : (c : ℕ) → digit_value c < 16 → is_hex_digit c ≡ true
digit-from_below c h = grind (arith)

-- a hex digit's value, in either crate's words
digit-value : (c : ℕ) → is_hex_digit c ≡ true → (digit_value c < 16) × (hex_digit_value c ≡ Some (digit_value c))
digit-value c h =
    elim (cases_lt c 97) [
      | inl below ↦ elim (cases_lt c 65) [ inl digit ↦ (grind (arith), grind (arith)) | inr capital ↦ (grind (arith), grind (arith)) ]
      | inr above ↦
          let high : c < 103 = grind (arith) in
          let letter : digit_value c ≡ c - 87 =
          rw (le-ltb c 48 (omega arith), le-ltb c 58 (omega arith), le-ltb c 65 (omega arith), le-ltb c 91 (omega arith), le-ltb c 97 above, lt-ltb c 123 (omega arith)) refl in
          (omega (arith, letter, high), rw letter (grind (arith)))
    ]

-- the bytes that pairs of digits say
abbrev said : List ℕ → List ℕ
said [] = []
said (a ∷ []) = []
said (a ∷ b ∷ rest) = (digit_value a * 16 + digit_value b) ∷ said rest

swapped : (x y : ℕ) → x * 16 + y ≡ 16 * x + y
swapped x y = omega arith

said-at : (s : List ℕ) (k : ℕ) → 2 * k + 1 < length s
    → slice_index (said s) k ≡ 16 * digit_value (slice_index s (2 * k)) + digit_value (slice_index s (2 * k + 1))
said-at [] k h = absurd (omega arith)
said-at (a ∷ []) k h = absurd (omega arith)
said-at (a ∷ b ∷ rest) zero h = swapped (digit_value a) (digit_value b)
said-at (a ∷ b ∷ rest) (suc k) h =
    let low : 2 * suc k + 1 ≡ suc (suc (2 * k + 1)) = omega arith in
    let high : 2 * suc k ≡ suc (suc (2 * k)) = omega arith in
    rw (low, high) (said-at rest k (omega arith))

decode_pairs-said : (i : ℕ) (s : List ℕ) → length s % 2 ≡ 0 → AllPass is_hex_digit s → decode_pairs i s ≡ Ok (said s)
unfolding decode_pairs
decode_pairs-said i [] even h = refl
decode_pairs-said i (a ∷ []) even h = absurd (omega arith)
decode_pairs-said i (a ∷ b ∷ rest) even h =
    let tail = All-tail digit_holds a (b ∷ rest) h in
    let high = (digit-value a (All-head digit_holds a (b ∷ rest) h)).1 in
    let low = (digit-value b (All-head digit_holds b rest tail)).1 in
    let byte = digit_value a * 16 + digit_value b in
    let pair : pair_value a b i ≡ Ok byte = rw (high, low) refl in
    let others = decode_pairs-said (i + 2) rest (omega arith) (All-tail digit_holds b rest tail) in
    decode_pairs-ok_pair i a b byte rest pair ∙ ap (cons_byte byte) others

-- what the answer says of the text
pub spelled_by : (s : List ℕ) (r : Result (List ℕ) FromHexError) → r ≡ decode_sized s 20
    → MatchOption (result_ok r) (Hex s → ⊥) (λ bytes. Spells s bytes)
spelled_by s (Ok bytes) h =
    let digits = (IsOk-decode_sized s 20).0 (rw (← h) refl) in
    let read = decode_pairs-said 0 s (omega (arith, digits.0)) digits.1 in
    let whole = decode_sized-pairs s 20 (omega (arith, digits.0)) (omega (arith, digits.0)) in
    let same : bytes ≡ said s = ap (λ (r : Result (List ℕ) FromHexError). result_unwrap_or r []) (h ∙ whole ∙ read) in (
      (digits.0, λ i below. (digit-value (slice_index s i) (All-get_or digit_holds s i 0 (omega (arith, digits.0, below)) digits.1)).0),
      λ k below. rw same (said-at s k (omega (arith, digits.0, below))),
    )
spelled_by s (Err e) h = λ hex.
    let refused : Result (List ℕ) FromHexError = Err e in
    let digits : AllPass is_hex_digit s =
    All-from_get_or digit_holds s 0 (λ i below. digit-from_below (slice_index s i) (hex.1 i (omega (arith, hex.0, below)))) in
    let ok = (IsOk-decode_sized s 20).1 (hex.0, digits) in
    let no : IsOk refused = rw (← h) at ok in
    cc no
