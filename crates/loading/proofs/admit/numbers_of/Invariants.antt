use Rattle.std.proofs.Common.{◌≡◌, map, get_or, take}
use Rattle.loading.proofs.admit.numbers_of.Given as goal

abbrev pub invariant-loop-position : goal.invariant-loop-position
invariant-loop-position l = l.numbers.items ≡ map (λ q. get_or l.places q 0) (take l.position-index l.positions)
