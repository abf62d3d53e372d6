use Rattle.std.proofs.Common.{◌≡◌, ◌≤◌, length, take, drop, sum_by}
use Rattle.graph_reader.specs.Bytes.{told_count}
use Rattle.graph_reader.specs.Verdict.{parents_in, total_of}
use Rattle.loading.specs.Waiting.{AllWait, listed_by}
use Rattle.loading.proofs.queue.queue_all.Given as goal

abbrev pub invariant-loop-position : goal.invariant-loop-position
invariant-loop-position l =
    let file = l.source.file.now in
    let entries = l.queue.entries.now in
    (l.queue.count ≡ l.position)
    × AllWait file l.position entries
    × (sum_by (listed_by file) (take l.position entries) ≡ total_of (take l.position (parents_in file)))
    × (drop (told_count file) entries ≡ drop (told_count file) l.initial.queue.entries.now)
    × (length entries ≡ length l.initial.queue.entries.now)
    × (l.queue.entries.ghost_name ≡ l.initial.queue.entries.ghost_name)
    × (l.position ≤ told_count file)
