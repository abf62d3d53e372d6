-- What a question asks about its commits. Assumes nothing.
use Rattle.std.specs.Prelude.{ℕ, Bool, ◌&&◌, ◌==◌, nat_le}
use Rattle.labels.specs.declared.kind.LabelKind.{Ghosts}
use Rattle.history.specs.Graph.{history, labels}
use Rattle.containment.specs.declared.question.Question.{Question}
use Rattle.containment.specs.Trails.{opens, Trail}

module _ {K L : Type 0} {kind : Ghosts K L} (q : Question K L kind) where
  -- c is open towards the target
  abbrev pub open_to : ℕ → Bool
  open_to = opens kind.allows (kind.start 0 0) (labels q.graph.now) q.target

  -- the trail from the tips towards the target
  abbrev pub OnTrail : ℕ → Type 0
  OnTrail = Trail (history q.graph.now) open_to q.target q.tips.now

  -- not marked yet, numbered as the target or higher, and open
  abbrev pub wanted_by : ℕ → ℕ → Bool
  wanted_by number mark = mark == 0 && (nat_le q.target number && open_to number)
