use Rattle.std.proofs.Common.{◌≡◌, ◌+◌, ◌<◌, ◌≤◌, ◌∷◌, length, take, drop, sum_by, refl, ap, ◌∙◌, subst, subst₂, arith}
use Rattle.std.specs.List.Sorted.{IsPermutation}
use Rattle.std.proofs.lemmas.List.Sums.{sum_by-cons}
use Rattle.std.proofs.lemmas.List.{take_all}
use Rattle.frontier.specs.declared.elements.ByLevel.{ByLevel}
use Rattle.frontier.specs.Heaps.{Queued}
use Rattle.graph_reader.specs.Bytes.{told_count}
use Rattle.graph_reader.specs.Verdict.{parents_in, total_of}
use Rattle.graph_reader.proofs.PartsHeld.{total_more}
use Rattle.graph_reader.proofs.Sources.{parents_long}
use Rattle.loading.specs.Waiting.{AllWait, by_level, key, listed_by}
use Rattle.loading.proofs.Lists.{drop_later}
use Rattle.loading.proofs.Takes.{none_wait, joined_wait, joined_sum}
use Rattle.loading.proofs.queue.queue_all.Goals as goal

pub loop-position-init : goal.loop-position-init
loop-position-init c = (c.over-queue.ensures.empty, none_wait c.args.source.now.file.now c.over-queue.result.entries.now, refl, refl, refl, refl, omega arith)

pub loop-position-preserved : goal.loop-position-preserved
loop-position-preserved c =
    let file = c.args.source.now.file.now in
    let p = c.loop-position.position in
    let before = c.loop-position.queue in
    let after = c.push.new.self in
    let old = before.entries.now in
    let new = after.entries.now in
    let pss = parents_in file in
    let x : ByLevel = c.waiting.result in
    let is : x ≡ key file p = c.waiting.ensures in
    let inv = c.loop-position.invariant in
    let counted : after.count ≡ p + 1 = omega (arith, c.push.ensures.count, inv.0) in
    let lt : p < told_count file = omega (arith, c.count-position-end.ensures, c.loop-position-test.true) in
    let room : p + 1 ≤ length new = omega (arith, after.within, counted) in
    let queued = subst (λ n. Queued by_level new n) counted after.queued in
    let holds = subst₂ (λ m n. IsPermutation (x ∷ take m old) (take n new)) inv.0 counted c.push.ensures.holds in
    let rest = subst (λ n. drop n new ≡ drop n old) counted c.push.ensures.rest in
    let sum = joined_sum file p old new x is inv.1 room queued holds (listed_by file) in (
      counted,
      joined_wait file p old new x is inv.1 room queued holds,
      omega (arith, sum, ap (listed_by file) is, sum_by-cons (listed_by file) x (take p old), inv.2, total_more pss p (omega (arith, parents_long c.args.source.now))),
      drop_later (p + 1) (told_count file) new old (omega arith) rest ∙ inv.3,
      c.push.ensures.long ∙ inv.4,
      c.push.ensures.same_reference ∙ inv.5,
      omega arith,
    )

-- all of them
all : (c : goal.After-loop-position) → c.loop-position.position ≡ told_count c.args.source.now.file.now
all c = omega (arith, c.loop-position.invariant.6, c.count-position-end.ensures, c.loop-position-test.false)

pub returns-clause-waiting : goal.returns-clause-waiting
returns-clause-waiting c = subst (λ n. AllWait c.args.source.now.file.now n c.loop-position.queue.entries.now) (all c) c.loop-position.invariant.1

pub returns-clause-listed : goal.returns-clause-listed
returns-clause-listed c =
    let source = c.args.source.now in
    let file = source.file.now in
    let pss = parents_in file in
    subst (λ n. sum_by (listed_by file) (take n c.loop-position.queue.entries.now) ≡ total_of (take n pss)) (all c) c.loop-position.invariant.2
    ∙ ap total_of (take_all (told_count file) pss (omega (arith, parents_long source)))
