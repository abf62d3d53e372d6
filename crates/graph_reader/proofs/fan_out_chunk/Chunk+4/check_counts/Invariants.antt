use Rattle.std.proofs.Common.{◌≡◌, ℕ, ◌<◌, List, get_or, drop}
use Rattle.graph_reader.specs.ChunkFaults.{fan_out_tests}
use Rattle.graph_reader.specs.Faults.{first_failing}
use Rattle.graph_file.specs.Layout.{fan_out}
use Rattle.graph_reader.proofs.fan_out_chunk.Chunk+4.check_counts.Given as goal

abbrev pub invariant-loop-i : goal.invariant-loop-i
invariant-loop-i l =
    (ids : List (List ℕ)) → ((i : ℕ) → i < 256 → get_or l.fn.counts i 0 ≡ fan_out ids i) →
    let tests = fan_out_tests l.self.bytes.now l.self.place ids in
    first_failing tests ≡ first_failing (drop l.i tests)
