use Rattle.std.proofs.Common.{◌+◌, ◌*◌, ◌≤◌, length, arith}
use Rattle.std.proofs.lemmas.List.Edits.{length-between}
use Rattle.graph_reader.proofs.ContainerSizes.{few_commits, edges_told, file_filled, chunks_told}
use Rattle.graph_reader.proofs.reading.cut.Goals as goal

pub invariant_of-result : goal.invariant_of-result
invariant_of-result c =
    let bytes = c.args.file.now in
    let count = c.told_count-count.result in
    let entries = c.told_edges-entries.result in
    let at = c.ids_begin-ids.result in
    let few : count ≤ 65536 = omega (arith, few_commits bytes c.requires, c.told_count-count.ensures) in
    let short : entries ≤ 262144 = omega (arith, edges_told bytes c.requires, c.told_edges-entries.ensures) in
    let low : at ≤ 1092 = omega (arith, chunks_told bytes c.requires, c.ids_begin-ids.ensures.value) in
    let filled : at + 56 * count + 4 * entries ≤ length bytes =
    omega (arith, file_filled bytes c.requires, c.told_count-count.ensures, c.told_edges-entries.ensures, c.ids_begin-ids.ensures.value) in
    record {
      few = few;
      short = short;
      identified = omega (arith, length-between bytes at (at + 20 * count) (omega arith));
      rowed = omega (arith, length-between bytes (at + 20 * count) (at + 56 * count) (omega arith));
      edged = omega (arith, length-between bytes (at + 56 * count) (at + 56 * count + 4 * entries) filled);
      ids_low = omega arith;
      rows_low = omega arith;
      edges_low = omega arith;
    }
