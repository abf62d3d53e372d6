use Rattle.std.proofs.Common.{◌≡◌, ◌+◌, ◌-◌, length, drop}
use Rattle.std.specs.Slice.Iter.{windows_size, windows_rest}
use Rattle.graph_reader.specs.Bytes.{ids_in}
use Rattle.graph_reader.specs.ChunkFaults.{order_tests}
use Rattle.graph_reader.specs.Faults.{first_failing}
use Rattle.graph_reader.proofs.id_chunk.Chunk+20.check_order.Given as goal

abbrev pub invariant-loop-p : goal.invariant-loop-p
invariant-loop-p l =
    let ids = ids_in l.self.bytes.now l.count in
    let tests = order_tests l.self.bytes.now l.self.place l.count in
    let rest = windows_rest l.p-iterator.iter in
    (windows_size l.p-iterator.iter ≡ 2)
    × (length rest + l.p-iterator.count ≡ l.count)
    × (rest ≡ drop (length ids - length rest) ids)
    × (first_failing tests ≡ first_failing (drop l.p-iterator.count tests))
