-- What the tables say of one commit. Assumes nothing.
use Rattle.std.proofs.Common.{◌≡◌, ℕ, ◌<◌, ◌≤◌, List, length, take, sym, refl, ap, ◌∙◌}
use Rattle.std.proofs.lemmas.List.{length-take-le, length-map}
use Rattle.labels.specs.declared.kind.LabelKind.{Ghosts}
use Rattle.history.specs.declared.row.CommitRow.{CommitRow}
use Rattle.history.specs.declared.graph.CommitGraph.{CommitGraph}
use Rattle.history.specs.Graph.{history, capacity, parent_capacity, Filled, Represents}
use Rattle.history.specs.History.{no_commit, commit_of, Wellformed}
use Rattle.history.specs.Model.{Model}
use Rattle.history.specs.Tables.{no_row, row_of, commit, commits, Rising, Complete}
use Rattle.history.proofs.Lists.{get_d_map_take}

module _ (rows : List CommitRow) (parents : List ℕ) (count : ℕ) (rowed : count ≤ length rows) where
  pub length_commits : length (commits rows parents count) ≡ count
  length_commits = length-map (take count rows) (commit parents) ∙ length-take-le count rows rowed

  pub commit_at : (k : ℕ) → k < count → commit_of (commits rows parents count) k ≡ commit parents (row_of rows k)
  commit_at k lt = get_d_map_take (commit parents) rows count k no_row no_commit rowed lt

-- the same of the commits that the tables are filled with
module _ {K L : Type 0} {kind : Ghosts K L} (start : ℕ → ℕ → L) (grown : L → L → L) (m : Model) (g : CommitGraph K L kind) (s : Filled start grown m g) where
  pub filled_length : length m.commits ≡ g.count
  filled_length = sym (ap length s.commits) ∙ length_commits g.rows.now g.parents.now g.count g.rowed

  pub filled_at : (k : ℕ) → k < g.count → commit_of m.commits k ≡ commit g.parents.now (row_of g.rows.now k)
  filled_at k lt =
      sym (ap (λ h. commit_of h k) s.commits) ∙ commit_at g.rows.now g.parents.now g.count g.rowed k lt

  -- tables that are filled represent the model once the order by id is right
  pub represents : Rising g.rows.now g.order.now g.count → Complete g.order.now g.count → Represents start grown m g
  represents rising complete = record { filled = s; rising = rising; complete = complete }

-- and of those that they represent
module _ {K L : Type 0} {kind : Ghosts K L} (start : ℕ → ℕ → L) (grown : L → L → L) (m : Model) (g : CommitGraph K L kind) (s : Represents start grown m g) where
  pub filled_of : Filled start grown m g
  filled_of = s.filled

  pub represented_length : length m.commits ≡ g.count
  represented_length = filled_length start grown m g filled_of

  pub represented_at : (k : ℕ) → k < g.count → commit_of m.commits k ≡ commit g.parents.now (row_of g.rows.now k)
  represented_at = filled_at start grown m g filled_of

-- tables that hold the model's commits are filled with them
pub filled_with : {K L : Type 0} {kind : Ghosts K L} (m : Model) (g : CommitGraph K L kind) → history g ≡ m.commits → Wellformed m.commits →
    capacity g ≡ m.capacity → parent_capacity g ≡ m.parent_capacity → Filled kind.start kind.grown m g
filled_with m g commits wellformed room parent_room =
    let s = g.computed in
    rw (← commits)
    record {
      commits = refl;
      labels = s.labels;
      levels = s.levels;
      corrected = s.corrected;
      listed = s.total;
      wellformed = rw commits wellformed;
      room = room;
      parent_room = parent_room;
    }

-- what the ghost fields say of the commits that the tables hold
module _ {K L : Type 0} {kind : Ghosts K L} (g : CommitGraph K L kind) where
  pub graph_length : length (history g) ≡ g.count
  graph_length = length_commits g.rows.now g.parents.now g.count g.rowed
