-- Bytes put into a buffer, one part behind another. Assumes nothing.
use Rattle.std.proofs.Common.{◌≡◌, ℕ, suc, ◌+◌, ◌*◌, ◌<◌, ◌≤◌, List, [], ◌∷◌, ◌++◌, length, get_or, take, drop, sym, refl, ap, ◌∙◌, ap₂, mul-suc, arith}
use lib.Seq.{paste}
use borrow.Rule.Slice.PartMut.{put_mid}
use Rattle.std.specs.List.{flat_map}
use Rattle.std.proofs.lemmas.List.Edits.{paste_none, paste_all, paste-paste}
use Rattle.std.proofs.lemmas.List.{length-append, take_more, take_all, length-take-le, get_or-take, flat_map_more}
use Rattle.std.proofs.lemmas.Slice.{put_mid-paste}
use Rattle.graph_file.specs.declared.output.Output.{Output}
use Rattle.graph_file.specs.Outputs.{Moved, Puts}
use Rattle.graph_file.specs.Placing.{placed}

pub placed_part : (d : List ℕ) (at k : ℕ) (s t : List ℕ) → t ≡ s → length s ≡ k → put_mid at k d t ≡ placed d at s
unfolding placed
placed_part d at k s t e long = put_mid-paste at k d t s (length s) e long refl

pub placed_none : (d : List ℕ) (at : ℕ) → d ≡ placed d at []
unfolding placed
placed_none d at = paste_none d at []

placed_next : (d : List ℕ) (at : ℕ) (s t : List ℕ) → at ≤ length d → placed (placed d at s) (at + length s) t ≡ placed d at (s ++ t)
unfolding placed
placed_next d at s t le = paste-paste d at s t (length s) (length t) refl refl le ∙ ap (paste d at (s ++ t)) (sym (length-append s t))

-- what stands in front, behind
pub placed_first : (d s : List ℕ) → placed d 0 s ≡ s ++ drop (length s) d
unfolding placed
placed_first d s = paste_all d 0 s (length s) refl ∙ ap (λ n. s ++ drop n d) (let z : 0 + length s ≡ length s = omega arith in z)

pub puts_none : (o : Output) → Puts o o []
puts_none o = placed_none o.bytes.now o.at

-- a part, and the next behind it
pub puts_next : (o p q : Output) (s t : List ℕ) → Puts o p s → p.at ≡ o.at + length s → Puts p q t → o.at ≤ length o.bytes.now → Puts o q (s ++ t)
unfolding placed_next
puts_next o p q s t a here b le =
    b ∙ ap₂ (λ d at. placed d at t) a here ∙ placed_next o.bytes.now o.at s t le

pub moved_on : (o p q : Output) (m n k : ℕ) → Moved o p m → Moved p q n → k ≡ m + n → Moved o q k
moved_on o p q m n k a b e = (b.0 ∙ a.0, b.1 ∙ a.1, omega (arith, a.2, b.2))

-- a loop that puts f x for each x
module _ {X : Type 0} (f : X → List ℕ) where
  -- none of the parts have been put
  pub part_begins : (d : List ℕ) (at : ℕ) (xs : List X) → d ≡ placed d at (flat_map f (take 0 xs))
  part_begins d at xs = placed_none d at

  pub puts_more : (o p q : Output) (xs : List X) (x : X) → Puts o p (flat_map f xs) → p.at ≡ o.at + length (flat_map f xs) → Puts p q (f x) → o.at ≤ length o.bytes.now →
      Puts o q (flat_map f (xs ++ (x ∷ [])))
  puts_more o p q xs x a here b le =
      puts_next o p q (flat_map f xs) (f x) a here b le ∙ ap (placed o.bytes.now o.at) (flat_map_more f [] xs x)

  pub length_joined : (w : ℕ) (d : X) (xs : List X) → ((k : ℕ) → k < length xs → length (f (get_or xs k d)) ≡ w) → length (flat_map f xs) ≡ w * length xs
  length_joined w d [] each = omega arith
  length_joined w d (x ∷ xs) each =
      length-append (f x) (flat_map f xs) ∙ omega (arith, each 0 (omega arith), length_joined w d xs (λ k lt. each (suc k) (omega arith)), mul-suc w (length xs))

  module _ (o p : Output) (w i : ℕ) (xs : List X) (z : X) (each : (k : ℕ) → k < length xs → length (f (get_or xs k z)) ≡ w) where
    pub part_grows : (q : Output) (bytes : List ℕ) → i < length xs → Puts o p (flat_map f (take i xs)) → p.at ≡ o.at + w * i → Puts p q bytes → bytes ≡ f (get_or xs i z) →
        o.at ≤ length o.bytes.now → Puts o q (flat_map f (take (i + 1) xs))
    part_grows q bytes lt a here b is le =
        let short = length-take-le i xs (omega arith) in
        let long = length_joined w z (take i xs) (λ k l. ap (λ x. length (f x)) (get_or-take i xs k z (omega arith)) ∙ each k (omega arith)) in
        puts_more o p q (take i xs) (get_or xs i z) a (omega (arith, long, ap (λ n. w * n) short)) (b ∙ ap (placed p.bytes.now p.at) is) le
        ∙ ap (λ s. placed o.bytes.now o.at (flat_map f s)) (sym (take_more xs i z lt))

    pub part_ends : length xs ≤ i → Puts o p (flat_map f (take i xs)) → Puts o p (flat_map f xs)
    part_ends le a = a ∙ ap (λ s. placed o.bytes.now o.at (flat_map f s)) (take_all i xs le)
