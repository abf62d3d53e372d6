use Rattle.std.proofs.Common.{◌+◌, ◌*◌, [], length, refl, ap, ◌∙◌, arith}
use Rattle.graph_file.specs.Placing.{ids_of}
use Rattle.graph_file.proofs.Filing.{ids_length, ids_wide, filed_id}
use Rattle.graph_file.proofs.Placed.{puts_none, moved_on, part_grows}
use Rattle.graph_file.proofs.Sources.{next_within}
use Rattle.graph_file.proofs.ids.put_ids.Goals as goal

pub loop-number-init : goal.loop-number-init
loop-number-init g c =
    record {
      moved = (refl, refl, omega arith);
      puts = λ h order s. puts_none c.args.output.now;
    }

pub loop-number-preserved : goal.loop-number-preserved
loop-number-preserved g c =
    let b = c.args.graph.now in
    let i = c.loop-number.number-index in
    let p = c.loop-number.output in
    let ns = c.by_id-number-items.result.now in
    let all = c.by_id-number-items.ensures in
    let lt = c.loop-number-test.true in
    record {
      moved = moved_on c.args.output.now p c.put_bytes.new.self (20 * i) (length c.row_at.result.id.bytes) (20 * (i + 1)) c.loop-number.invariant.moved c.put_bytes.ensures.moved (omega arith);
      puts = λ h order s.
          part_grows (λ id. id) c.args.output.now p 20 i (ids_of h order) [] (ids_wide b h order s) c.put_bytes.new.self c.row_at.result.id.bytes (omega (arith, next_within b ns all i lt, ids_length b h order s))
          (c.loop-number.invariant.puts h order s) c.loop-number.invariant.moved.2 c.put_bytes.ensures.puts
          (ap (λ r. r.id.bytes) c.row_at.ensures ∙ filed_id b h order s ns all i lt) (omega arith);
    }
