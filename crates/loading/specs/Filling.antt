-- Tables that a load fills. Assumes nothing.
use Rattle.std.specs.Prelude.{◌≡◌, ℕ, ◌<◌, ◌≤◌, List, [], length, take, drop, slice_index}
use Rattle.frontier.specs.declared.elements.ByLevel.{ByLevel}
use Rattle.graph_reader.specs.Bytes.{told_count}
use Rattle.graph_reader.specs.Verdict.{parents_in, total_of}
use Rattle.labels.specs.declared.kind.LabelKind.{Ghosts}
use Rattle.history.specs.declared.graph.CommitGraph.{CommitGraph}
use Rattle.history.specs.Graph.{capacity, parent_capacity, Filled}
use Rattle.history.specs.History.{Commit}
use Rattle.history.specs.Model.{Model}
use Rattle.loading.specs.Described.{Described}

-- the tables keep their lengths, and their entries behind the commits that they hold now
pub record Grown {K L : Type 0} {kind : Ghosts K L} (old new : CommitGraph K L kind) : Type 0 where
  pub rows : drop new.count new.rows.now ≡ drop new.count old.rows.now
  pub labels : drop new.count new.labels.now ≡ drop new.count old.labels.now
  pub order : drop new.count new.order.now ≡ drop new.count old.order.now
  pub parents : drop new.used new.parents.now ≡ drop new.used old.parents.now
  pub row_room : length new.rows.now ≡ length old.rows.now
  pub label_room : length new.labels.now ≡ length old.labels.now
  pub order_room : length new.order.now ≡ length old.order.now
  pub parent_room : length new.parents.now ≡ length old.parents.now

-- empty tables with room for the file's commits, and a list with room for their numbers
pub record Roomy {K L : Type 0} {kind : Ghosts K L} (file : List ℕ) (g : CommitGraph K L kind) (places : List ℕ) : Type 0 where
  pub empty : g.count ≡ 0
  pub unused : g.used ≡ 0
  pub commit_room : told_count file ≤ capacity g
  pub parent_room : total_of (parents_in file) ≤ parent_capacity g
  pub place_room : told_count file ≤ length places

-- the model, with these commits
abbrev pub holding : Model → List Commit → Model
holding m h = record { commits = h; capacity = m.capacity; parent_capacity = m.parent_capacity }

-- the tables hold the history that the file describes; entry p of `places` is the number of the commit at file position p
pub record Admitted {K L : Type 0} {kind : Ghosts K L} (start : ℕ → ℕ → L) (grown : L → L → L) (file : List ℕ) (g g' : CommitGraph K L kind) (queue queue' : List ByLevel) (places places' : List ℕ) : Type 0 where
  pub count : g'.count ≡ told_count file
  pub tables : Grown g g'
  pub queue_rest : drop (told_count file) queue' ≡ drop (told_count file) queue
  pub places_rest : drop (told_count file) places' ≡ drop (told_count file) places
  pub numbers : (p : ℕ) → p < told_count file → slice_index places' p < told_count file
  pub filled : (m : Model) → Filled start grown m g → m.commits ≡ [] →
      (h : List Commit) × Filled start grown (holding m h) g' × Described file h (take (told_count file) places')
