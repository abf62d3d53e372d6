use Rattle.std.proofs.Common.{◌≡◌, ℕ, ◌<◌, ◌≤◌, length, get_or, take}
use Rattle.graph_reader.specs.ChunkFaults.{begun_by}
use Rattle.graph_reader.proofs.first_bytes.tally.Given as goal

abbrev pub invariant-loop-id : goal.invariant-loop-id
invariant-loop-id l =
    (length l.counts ≡ 256)
    × ((i : ℕ) → i < 256 → get_or l.counts i 0 ≡ begun_by (take l.id-index l.ids) i)
    × ((i : ℕ) → get_or l.counts i 0 ≤ l.id-index)
