-- The tables of a commit graph as a history. Assumes nothing.
use Rattle.std.specs.Prelude.{◌≡◌, ℕ, min, List, None, map, length, take}
use Rattle.labels.specs.declared.kind.LabelKind.{Ghosts}
use Rattle.history.specs.declared.graph.CommitGraph.{CommitGraph}
use Rattle.history.specs.History.{Commit, Wellformed, parent_total, find_id}
use Rattle.history.specs.Labels.{labels_of}
use Rattle.history.specs.Generations.{levels_of, corrected_of}
use Rattle.history.specs.Model.{Model, plus}
use Rattle.history.specs.Tables.{commits, Rising, Complete}

module _ {K L : Type 0} {kind : Ghosts K L} (g : CommitGraph K L kind) where
  abbrev pub history : List Commit
  history = commits g.rows.now g.parents.now g.count

  -- the label of each commit
  abbrev pub labels : List L
  labels = take g.count g.labels.now

  -- the shortest of the tables with one entry a commit, and at most 65,536
  abbrev pub capacity : ℕ
  capacity = min (min (length g.rows.now) (length g.labels.now)) (min (length g.order.now) 65536)

  -- the length of the table of parents, and at most 262,144
  abbrev pub parent_capacity : ℕ
  parent_capacity = min (length g.parents.now) 262144

-- the tables hold the model's commits, with the labels that the kind makes, whatever the order by id holds
pub record Filled {K L : Type 0} {kind : Ghosts K L} (start : ℕ → ℕ → L) (grown : L → L → L) (m : Model) (g : CommitGraph K L kind) : Type 0 where
  pub commits : history g ≡ m.commits
  pub labels : take g.count g.labels.now ≡ labels_of start grown m.commits
  pub levels : map (λ r. r.level) (take g.count g.rows.now) ≡ levels_of m.commits
  pub corrected : map (λ r. r.corrected) (take g.count g.rows.now) ≡ corrected_of m.commits
  pub listed : g.used ≡ parent_total m.commits
  pub wellformed : Wellformed m.commits
  pub room : capacity g ≡ m.capacity
  pub parent_room : parent_capacity g ≡ m.parent_capacity

-- and in the order by id each of them, rising
pub record Represents {K L : Type 0} {kind : Ghosts K L} (start : ℕ → ℕ → L) (grown : L → L → L) (m : Model) (g : CommitGraph K L kind) : Type 0 where
  pub filled : Filled start grown m g
  pub rising : Rising g.rows.now g.order.now g.count
  pub complete : Complete g.order.now g.count

-- whatever commits the tables were filled with, they are filled with one more, if its id is new
abbrev pub FilledWith : {K L : Type 0} {kind : Ghosts K L} → (ℕ → ℕ → L) → (L → L → L) → Commit → CommitGraph K L kind → CommitGraph K L kind → Type 0
FilledWith start grown c old new = (m : Model) → Filled start grown m old → find_id m.commits c.id ≡ None → Filled start grown (plus m c) new
