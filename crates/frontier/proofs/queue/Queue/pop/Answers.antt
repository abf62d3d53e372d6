use Rattle.std.proofs.Common.{arith}
use Rattle.std.proofs.lemmas.Grind.{common_steps}
use Rattle.frontier.proofs.queue.Queue.pop.Goals as goal

pub returns-clause-cases : goal.returns-clause-cases
returns-clause-cases g c = grind (arith, common_steps)
