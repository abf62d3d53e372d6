-- A commit history: the list of its commits in the order in which they were added. A commit's number is its place. Assumes nothing.
use Rattle.std.specs.Prelude.{◌≡◌, ℕ, suc, ◌+◌, ◌<◌, ◌≤◌, cond, List, [], ◌∷◌, length, Some, None, Option, slice_index, slice_index_or}
use Rattle.history.specs.Ids.{same}

-- ids are lists of 20 bytes, the date is in seconds, parents are numbers
pub record Commit : Type 0 where
  pub id : List ℕ
  pub tree : List ℕ
  pub date : ℕ
  pub parents : List ℕ

abbrev pub no_commit : Commit
no_commit = record { id = []; tree = []; date = 0; parents = [] }

abbrev pub commit_of : List Commit → ℕ → Commit
commit_of h a = slice_index_or h a no_commit

abbrev pub parents_of : List Commit → ℕ → List ℕ
parents_of h a = (commit_of h a).parents

-- p is a parent of a
abbrev pub Parent : List Commit → ℕ → ℕ → Type 0
Parent h a p = (j : ℕ) × (j < length (parents_of h a)) × (slice_index (parents_of h a) j ≡ p)

-- a chain of k steps from a to b, each to a parent
pub data Chain (h : List Commit) : ℕ → ℕ → ℕ → Type 0 where
  here : {a : ℕ} → Chain h a a 0
  onward : {a p b k : ℕ} → Parent h a p → Chain h p b k → Chain h a b (suc k)

-- a reaches b, or: b is an ancestor of a. Each commit is an ancestor of itself
abbrev pub Reaches : List Commit → ℕ → ℕ → Type 0
Reaches h a b = (k : ℕ) × Chain h a b k

-- how many parents the commits list in all
abbrev pub parent_total : List Commit → ℕ
parent_total [] = 0
parent_total (c ∷ h) = length c.parents + parent_total h

-- the number of the first commit from n on that has the id
abbrev pub find_from : ℕ → List Commit → List ℕ → Option ℕ
find_from n [] id = None
find_from n (c ∷ h) id = cond (same c.id id) (Some n) (find_from (suc n) h id)

abbrev pub find_id : List Commit → List ℕ → Option ℕ
find_id h id = find_from 0 h id

-- what every list of commits in the tables keeps, whatever their ids are: parents come before their children, dates have at most 34 bits, a commit has at
-- most 64 parents, ids have 20 bytes
pub record Proper (h : List Commit) : Type 0 where
  pub falling : (a p : ℕ) → Parent h a p → p < a
  pub dated : (a : ℕ) → (commit_of h a).date ≤ 17179869183
  pub few : (a : ℕ) → length (parents_of h a) ≤ 64
  pub wide : (a : ℕ) → a < length h → (length (commit_of h a).id ≡ 20) × (length (commit_of h a).tree ≡ 20)

-- what every history keeps: parents come before their children, dates have at most 34 bits, a commit has at most 64 parents, ids have 20 bytes and differ
pub record Wellformed (h : List Commit) : Type 0 where
  pub falling : (a p : ℕ) → Parent h a p → p < a
  pub dated : (a : ℕ) → (commit_of h a).date ≤ 17179869183
  pub few : (a : ℕ) → length (parents_of h a) ≤ 64
  pub wide : (a : ℕ) → a < length h → (length (commit_of h a).id ≡ 20) × (length (commit_of h a).tree ≡ 20)
  pub distinct : (a b : ℕ) → a < length h → b < length h → (commit_of h a).id ≡ (commit_of h b).id → a ≡ b
