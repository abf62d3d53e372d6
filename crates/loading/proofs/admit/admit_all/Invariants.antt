use Rattle.std.proofs.Common.{◌≡◌, ◌-◌, ◌≤◌}
use Rattle.graph_reader.specs.Bytes.{told_count}
use Rattle.loading.proofs.Progressing.{Progress}
use Rattle.loading.proofs.admit.admit_all.Given as goal

abbrev pub invariant-loop-next : goal.invariant-loop-next
invariant-loop-next g l =
    let k = g.K.LabelKind in
    let n = told_count l.source.file.now in
    Progress k.start k.grown l.source.file.now l.initial.graph l.graph l.initial.queue.entries.now l.queue.entries.now l.initial.places l.places (n - l.queue.count)
    × (l.queue.count ≤ n)
    × (l.queue.entries.ghost_name ≡ l.initial.queue.entries.ghost_name)

abbrev pub decreases-loop-next : goal.decreases-loop-next
decreases-loop-next g l = l.queue.count
