-- Words and the bytes that hold them. Assumes nothing.
use Rattle.std.proofs.Common.{◌≡◌, ℕ, ◌+◌, ◌*◌, ◌/◌, ◌%◌, ◌<◌, ◌≤◌, List, [], ◌∷◌, ◌++◌, length, get_or, take, drop, sym, refl, ap, ◌∙◌, ap₂, ⊎_elim, arith}
use Rattle.std.proofs.lemmas.List.{drop_more, get_or-drop, get_or-take, get_or_past, length-take}
use Rattle.std.proofs.lemmas.Bool.{cases_lt}
use Rattle.graph_file.specs.Words.{word, long_word}
use Rattle.graph_reader.specs.Bytes.{word_at, long_at}

-- each number is a byte
abbrev pub AllBytes : List ℕ → Type 0
AllBytes xs = (i : ℕ) → get_or xs i 0 < 256

pub drop_bytes : (n : ℕ) (xs : List ℕ) → AllBytes xs → AllBytes (drop n xs)
drop_bytes n xs low i = omega (arith, get_or-drop n xs i 0, low (n + i))

pub take_bytes : (n : ℕ) (xs : List ℕ) → AllBytes xs → AllBytes (take n xs)
take_bytes n xs low i =
    ⊎_elim
    (λ lt. omega (arith, get_or-take n xs i 0 lt, low i))
    (λ le. omega (arith, get_or_past (take n xs) i 0 (omega (arith, length-take n xs))))
    (cases_lt i n)

four_bytes : (a b c d : ℕ) → a < 256 → b < 256 → c < 256 → d < 256 → word (a * 16777216 + b * 65536 + c * 256 + d) ≡ a ∷ (b ∷ (c ∷ (d ∷ [])))
four_bytes a b c d la lb lc ld =
    let x = a * 16777216 + b * 65536 + c * 256 + d in
    let p : x / 16777216 % 256 ≡ a = omega arith in
    let q : x / 65536 % 256 ≡ b = omega arith in
    let r : x / 256 % 256 ≡ c = omega arith in
    let s : x % 256 ≡ d = omega arith in
    cc

two_words : (x y : ℕ) → y < 4294967296 → long_word (x * 4294967296 + y) ≡ word x ++ word y
two_words x y lt =
    let p : (x * 4294967296 + y) / 4294967296 ≡ x = omega arith in
    let q : (x * 4294967296 + y) % 4294967296 ≡ y = omega arith in
    ap₂ (λ m n. word m ++ word n) p q

-- the bytes from a place on begin with the word there
module _ (xs : List ℕ) (low : AllBytes xs) where
  pub word_small : (at : ℕ) → word_at xs at < 4294967296
  word_small at = omega (arith, low at, low (at + 1), low (at + 2), low (at + 3))

  pub word_cut : (at v next : ℕ) → next ≤ length xs → next ≡ at + 4 → word_at xs at ≡ v → drop at xs ≡ word v ++ drop next xs
  unfolding four_bytes
  word_cut at v next le here is =
      drop_more xs at 0 (omega arith) ∙ ap (λ s. get_or xs at 0 ∷ s) (
      drop_more xs (at + 1) 0 (omega arith) ∙ ap (λ s. get_or xs (at + 1) 0 ∷ s) (
      ap (λ n. drop n xs) (let z : at + 1 + 1 ≡ at + 2 = omega arith in z) ∙ drop_more xs (at + 2) 0 (omega arith) ∙ ap (λ s. get_or xs (at + 2) 0 ∷ s) (
      ap (λ n. drop n xs) (let z : at + 2 + 1 ≡ at + 3 = omega arith in z) ∙ drop_more xs (at + 3) 0 (omega arith)
      ∙ ap (λ n. get_or xs (at + 3) 0 ∷ drop n xs) (let z : at + 3 + 1 ≡ next = omega arith in z))))
      ∙ ap (λ s. s ++ drop next xs) (sym (four_bytes _ _ _ _ (low at) (low (at + 1)) (low (at + 2)) (low (at + 3))) ∙ ap word is)

  pub word_taken : (at v : ℕ) → at + 4 ≤ length xs → word_at xs at ≡ v → word v ≡ take 4 (drop at xs)
  word_taken at v le is = sym (ap (take 4) (word_cut at v (at + 4) le refl is))

  pub long_cut : (at v next : ℕ) → next ≤ length xs → next ≡ at + 8 → long_at xs at ≡ v → drop at xs ≡ long_word v ++ drop next xs
  unfolding two_words
  long_cut at v next le here is =
      word_cut at (word_at xs at) (at + 4) (omega arith) refl refl
      ∙ ap (λ s. word (word_at xs at) ++ s) (word_cut (at + 4) (word_at xs (at + 4)) next le (omega arith) refl)
      ∙ ap (λ s. s ++ drop next xs) (sym (two_words (word_at xs at) (word_at xs (at + 4)) (word_small (at + 4))) ∙ ap long_word is)

pub byte_at_drop : (n : ℕ) (xs : List ℕ) (at here : ℕ) → here ≡ n + at → get_or xs here 0 ≡ get_or (drop n xs) at 0
byte_at_drop n xs at here e = ap (λ k. get_or xs k 0) e ∙ sym (get_or-drop n xs at 0)

pub word_at_drop : (n : ℕ) (xs : List ℕ) (at here : ℕ) → here ≡ n + at → word_at xs here ≡ word_at (drop n xs) at
word_at_drop n xs at here e =
    omega (
      arith,
      byte_at_drop n xs at here e,
      byte_at_drop n xs (at + 1) (here + 1) (omega arith),
      byte_at_drop n xs (at + 2) (here + 2) (omega arith),
      byte_at_drop n xs (at + 3) (here + 3) (omega arith),
    )

-- a word in front is read back
pub word_first : (v : ℕ) (rest : List ℕ) → v < 4294967296 → word_at (word v ++ rest) 0 ≡ v
word_first v rest lt =
    let a : v / 16777216 % 256 ≡ v / 16777216 = omega arith in
    let b : v / 16777216 * 256 + v / 65536 % 256 ≡ v / 65536 = omega arith in
    let c : v / 65536 * 256 + v / 256 % 256 ≡ v / 256 = omega arith in
    let d : v / 256 * 256 + v % 256 ≡ v = omega arith in
    omega arith

pub long_first : (v : ℕ) (rest : List ℕ) → v < 18446744073709551616 → long_at (long_word v ++ rest) 0 ≡ v
long_first v rest lt =
    let high = word_first (v / 4294967296) (word (v % 4294967296) ++ rest) (omega arith) in
    let low = word_first (v % 4294967296) rest (omega arith) in
    omega (arith, high, low)
