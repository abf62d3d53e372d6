-- A queue in the first entries of a slice, as a binary heap. Assumes nothing.
use Rattle.std.specs.Prelude.{◌≡◌, ℕ, ◌-◌, ◌/◌, ◌<◌, Bool, true, false, ◌⊎◌, List, ◌∷◌, take, ◌≢◌, slice_index_or}
use Rattle.std.specs.Coded.{Coded-set, coded_bool, Π_prop, →_prop}
use Rattle.std.specs.List.Sorted.{IsPermutation}

-- the place of an entry's parent in the heap
abbrev pub parent : ℕ → ℕ
parent i = (i - 1) / 2

-- of the first n entries, none comes before its parent
unfoldable pub Queued : {X : Type 0} → (X → X → Bool) → List X → ℕ → Type 0
Queued {X} before xs n = (i : ℕ) (d : X) → 0 < i → i < n → before (slice_index_or xs i d) (slice_index_or xs (parent i) d) ≡ false

pub Queued-prop : {X : Type 0} (before : X → X → Bool) (xs : List X) (n : ℕ) → IsProp (Queued before xs n)
unfolding Queued
Queued-prop before xs n = Π_prop (λ i. Π_prop (λ d. →_prop (→_prop (Coded-set coded_bool _ _))))

-- each of the first n entries is x, or x comes before it
abbrev pub First : {X : Type 0} → (X → X → Bool) → List X → ℕ → X → Type 0
First {X} before xs n x = (k : ℕ) (d : X) → k < n → (slice_index_or xs k d ≡ x) ⊎ (before x (slice_index_or xs k d) ≡ true)

-- x was taken out of the queue of n entries: it came first, and the others are the queue now
pub record TakenOut {X : Type 0} (before : X → X → Bool) (old new : List X) (n : ℕ) (x : X) : Type 0 where
  pub some : 0 < n
  pub first : First before old n x
  pub holds : IsPermutation (x ∷ take (n - 1) new) (take n old)
  pub queued : Queued before new (n - 1)

-- x stands among the first n entries
abbrev pub Among : {X : Type 0} → X → List X → ℕ → Type 0
Among {X} x xs n = (i : ℕ) × (i < n) × ((d : X) → slice_index_or xs i d ≡ x)

-- the first n entries differ from one another: equal ones have one place
unfoldable pub Distinct : {X : Type 0} → List X → ℕ → Type 0
Distinct {X} xs n = (i j : ℕ) (d : X) → i < n → j < n → slice_index_or xs i d ≡ slice_index_or xs j d → i ≡ j

-- the heap but for the entry at h, which may have to go down: its children come after its parent all the same
pub record Sinking {X : Type 0} (before : X → X → Bool) (xs : List X) (n h : ℕ) : Type 0 where
  pub others : (i : ℕ) (d : X) → 0 < i → i < n → (parent i ≢ h) → before (slice_index_or xs i d) (slice_index_or xs (parent i) d) ≡ false
  pub around : (i : ℕ) (d : X) → 0 < i → i < n → parent i ≡ h → 0 < h → before (slice_index_or xs i d) (slice_index_or xs (parent h) d) ≡ false

-- c is a child of the entry at h, and no child of that comes before it
pub record SoonerChild {X : Type 0} (before : X → X → Bool) (xs : List X) (n h c : ℕ) : Type 0 where
  pub some : 0 < c
  pub within : c < n
  pub child : parent c ≡ h
  pub first : (i : ℕ) (d : X) → 0 < i → i < n → parent i ≡ h → before (slice_index_or xs i d) (slice_index_or xs c d) ≡ false
