-- A chunk as its items, all of one width. Assumes nothing.
use Rattle.std.proofs.Common.{◌≡◌, ℕ, zero, suc, ◌+◌, ◌*◌, ◌<◌, List, [], ◌∷◌, ◌++◌, map, length, get_or, take, drop, sym, refl, ap, ◌∙◌, ap₂, mul-suc, arith}
use Rattle.std.specs.List.{range_with_len, flat_map}
use Rattle.std.proofs.lemmas.List.{take-append-drop, drop-drop, drop_all, drop_at, take_at}

pub joined_map : {X Y A : Type 0} (f : Y → List A) (g : X → Y) (xs : List X) → flat_map f (map g xs) ≡ flat_map (λ x. f (g x)) xs
joined_map f g [] = refl
joined_map f g (x ∷ xs) = ap (λ s. f (g x) ++ s) (joined_map f g xs)

one_more : (w i : ℕ) → w * (i + 1) ≡ w * i + w
one_more w i = ap (λ n. w * n) (let z : i + 1 ≡ suc i = omega arith in z) ∙ mul-suc w i

-- a chunk of n items is what they are, one behind another
module _ (w : ℕ) (f : ℕ → List ℕ) (chunk : List ℕ) where
  items_from : (a n : ℕ) → length chunk ≡ w * (a + n) → ((i : ℕ) → i < a + n → f i ≡ take w (drop (w * i) chunk)) → flat_map f (range_with_len a n) ≡ drop (w * a) chunk
  unfolding one_more
  items_from a zero long each = sym (drop_all (w * a) chunk (omega (arith, ap (λ n. w * n) (let z : a + 0 ≡ a = omega arith in z))))
  items_from a (suc n) long each =
      let same : a + 1 + n ≡ a + suc n = omega arith in
      ap₂ (λ s t. s ++ t) (each a (omega arith)) (items_from (a + 1) n (long ∙ ap (λ n. w * n) (sym same)) (λ i lt. each i (omega arith)))
      ∙ ap (λ s. take w (drop (w * a) chunk) ++ s) (ap (λ n. drop n chunk) (one_more w a) ∙ sym (drop-drop w (w * a) chunk))
      ∙ take-append-drop w (drop (w * a) chunk)

  pub chunk_is : (n : ℕ) → length chunk ≡ w * n → ((i : ℕ) → i < n → f i ≡ take w (drop (w * i) chunk)) → flat_map f (range_with_len 0 n) ≡ chunk
  unfolding items_from
  chunk_is n long each =
      items_from 0 n (long ∙ ap (λ k. w * k) (let z : n ≡ 0 + n = omega arith in z)) (λ i lt. each i (omega arith))
      ∙ ap (λ k. drop k chunk) (let z : w * 0 ≡ 0 = omega arith in z)

-- an item, and those behind it
module _ {X : Type 0} (w : ℕ) (f : X → List ℕ) (d : X) where
  pub item_cut : (xs : List X) (i : ℕ) → i < length xs → ((k : ℕ) → k < length xs → length (f (get_or xs k d)) ≡ w) → drop (w * i) (flat_map f xs) ≡ f (get_or xs i d) ++ drop (w * (i + 1)) (flat_map f xs)
  unfolding one_more
  item_cut [] i lt each = absurd (omega arith)
  item_cut (x ∷ xs) zero lt each =
      ap (λ n. drop n (flat_map f (x ∷ xs))) (let z : w * 0 ≡ 0 = omega arith in z)
      ∙ ap (λ s. f x ++ s) (sym (drop_at (f x) (flat_map f xs) (w * (0 + 1)) (each 0 (omega arith) ∙ (let z : w ≡ w * 1 = omega arith in z))))
  item_cut (x ∷ xs) (suc i) lt each =
      let behind : (k : ℕ) → drop (w * suc k) (f x ++ flat_map f xs) ≡ drop (w * k) (flat_map f xs) = λ k.
      ap (λ n. drop n (f x ++ flat_map f xs)) (mul-suc w k ∙ (let z : w * k + w ≡ w + w * k = omega arith in z))
      ∙ sym (drop-drop (w * k) w (f x ++ flat_map f xs)) ∙ ap (drop (w * k)) (drop_at (f x) (flat_map f xs) w (each 0 (omega arith))) in
      behind i ∙ item_cut xs i (omega arith) (λ k l. each (suc k) (omega arith))
      ∙ ap (λ s. f (get_or xs i d) ++ s) (sym (ap (λ n. drop (w * n) (f x ++ flat_map f xs)) (let z : suc i + 1 ≡ suc (i + 1) = omega arith in z) ∙ behind (i + 1)))

  pub item_back : (xs : List X) (i : ℕ) → i < length xs → ((k : ℕ) → k < length xs → length (f (get_or xs k d)) ≡ w) → take w (drop (w * i) (flat_map f xs)) ≡ f (get_or xs i d)
  item_back xs i lt each =
      ap (take w) (item_cut xs i lt each) ∙ take_at (f (get_or xs i d)) (drop (w * (i + 1)) (flat_map f xs)) w (each i lt)
