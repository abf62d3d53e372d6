-- When a commit fits, and which entries of the tables change when it is added. Assumes nothing.
use Rattle.std.specs.Prelude.{◌≡◌, ℕ, ◌+◌, ◌<◌, ◌≤◌, List, length, take, drop, slice_index}
use Rattle.history.specs.declared.add.NewCommit.{NewCommit}
use Rattle.history.specs.History.{Commit}
use Rattle.history.specs.Model.{commit_given}
use Rattle.labels.specs.declared.kind.LabelKind.{Ghosts}
use Rattle.history.specs.declared.graph.CommitGraph.{CommitGraph}
use Rattle.history.specs.Graph.{capacity, parent_capacity}

-- the commit that is to be written
abbrev pub given : NewCommit → Commit
given new = commit_given new.id new.tree new.date new.parents.now

pub record Fits {K L : Type 0} {kind : Ghosts K L} (g : CommitGraph K L kind) (date : ℕ) (parents : List ℕ) : Type 0 where
  pub dated : date ≤ 17179869183
  pub few : length parents ≤ 64
  pub held : (k : ℕ) → k < length parents → slice_index parents k < g.count
  pub room : g.count < capacity g
  pub parent_room : g.used + length parents ≤ parent_capacity g

-- all entries before `from` and from `to` on stand
pub record Outside {X : Type 0} (old new : List X) (from to : ℕ) : Type 0 where
  pub before : take from new ≡ take from old
  pub behind : drop to new ≡ drop to old

-- one commit more, with so many parents: each table's one new entry, the parents' new entries, and the order by id up to the new count
pub record Appended {K L : Type 0} {kind : Ghosts K L} (old new : CommitGraph K L kind) (size : ℕ) : Type 0 where
  pub count : new.count ≡ old.count + 1
  pub used : new.used ≡ old.used + size
  pub rows : Outside old.rows.now new.rows.now old.count (old.count + 1)
  pub labels : Outside old.labels.now new.labels.now old.count (old.count + 1)
  pub order : Outside old.order.now new.order.now 0 (old.count + 1)
  pub parents : Outside old.parents.now new.parents.now old.used (old.used + size)

-- the order by id written anew: all else stands
pub record Reordered {K L : Type 0} {kind : Ghosts K L} (old new : CommitGraph K L kind) (list : List ℕ) : Type 0 where
  pub count : new.count ≡ old.count
  pub used : new.used ≡ old.used
  pub rows : new.rows.now ≡ old.rows.now
  pub labels : new.labels.now ≡ old.labels.now
  pub parents : new.parents.now ≡ old.parents.now
  pub order : take old.count new.order.now ≡ list
  pub behind : drop old.count new.order.now ≡ drop old.count old.order.now
  pub long : length new.order.now ≡ length old.order.now
