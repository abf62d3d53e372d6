-- The parents that a graph tells of a commit come before it. Assumes nothing.
use Rattle.std.proofs.Common.{◌≡◌, ℕ, ◌<◌, List, length, get_or, sym, ap, arith}
use Rattle.labels.specs.declared.kind.LabelKind.{Ghosts}
use Rattle.history.specs.declared.graph.CommitGraph.{CommitGraph}
use Rattle.history.specs.Graph.{history}
use Rattle.history.specs.History.{parents_of}

pub parents_below : {K L : Type 0} {kind : Ghosts K L} (g : CommitGraph K L kind) (n : ℕ) (ps : List ℕ) → ps ≡ parents_of (history g) n → (j : ℕ) → j < length ps → get_or ps j 0 < n
parents_below g n ps same j lt = g.proper.falling n (get_or ps j 0) (j, omega (arith, ap length same), sym (ap (λ l. get_or l j 0) same))
