use Rattle.std.proofs.Common.{◌≡◌, ℕ, ◌<◌, get_or}
use Rattle.containment.specs.Settling.{told}
use Rattle.containment.proofs.question.Question.tell.Given as goal

abbrev pub invariant-loop-i : goal.invariant-loop-i
invariant-loop-i g l = (k : ℕ) → k < l.i → get_or l.results k 0 ≡ told (get_or l.marks (get_or l.self.tips.now k 0) 0)
