use Rattle.std.proofs.Common.{◌+◌, ◌*◌, length, get_or, refl, ap, ◌∙◌, arith}
use Rattle.graph_file.specs.Encoding.{row_of_commit, rows_from}
use Rattle.graph_file.specs.Layout.{row_bytes}
use Rattle.graph_file.proofs.DataRows.{blank_row, length_rows, next_row, rows_wide}
use Rattle.graph_file.proofs.Filing.{filed_length, filed_number, filed_extras}
use Rattle.graph_file.proofs.Placed.{puts_none, moved_on, part_grows, part_ends}
use Rattle.graph_file.proofs.Sources.{length_listed, next_within, next_few, next_extras}
use Rattle.graph_file.proofs.rows.put_rows.Goals as goal

pub loop-number-init : goal.loop-number-init
loop-number-init g c =
    record {
      from = refl;
      few = omega arith;
      moved = (refl, refl, omega arith);
      puts = λ h order s. puts_none c.args.output.now;
    }

pub loop-number-preserved : goal.loop-number-preserved
loop-number-preserved g c =
    let b = c.args.graph.now in
    let i = c.loop-number.number-index in
    let p = c.loop-number.output in
    let start = c.loop-number.start in
    let ns = c.by_id-number-items.result.now in
    let all = c.by_id-number-items.ensures in
    let lt = c.loop-number-test.true in
    let ps = c.parents_at.result.now in
    let its = c.parents_at.ensures in
    let words = c.extra_edges-start.ensures in
    record {
      from = omega (arith, words, c.loop-number.invariant.from, next_extras b ns all i lt ps its);
      few = omega (arith, words, c.loop-number.invariant.few, next_few b ns all i lt ps its);
      moved = moved_on c.args.output.now p c.put_row.new.output (36 * i) 36 (36 * (i + 1)) c.loop-number.invariant.moved c.put_row.ensures.moved (omega arith);
      puts = λ h order s.
          let long = filed_length b h order s in
          part_grows row_bytes c.args.output.now p 36 i (rows_from h order 0 order) blank_row (rows_wide h order s.ordered s.wide)
          c.put_row.new.output (row_bytes (row_of_commit h order (get_or ns i 0) start)) (omega (arith, next_within b ns all i lt, long, length_rows h order order 0)) (c.loop-number.invariant.puts h order s)
          c.loop-number.invariant.moved.2 (c.put_row.ensures.puts h order s)
          (next_row h order (get_or ns i 0) start i (omega (arith, next_within b ns all i lt, long)) (filed_number b h order s ns all i) (c.loop-number.invariant.from ∙ filed_extras b h order s i)) (omega arith);
    }

pub returns-clause-puts : goal.returns-clause-puts
returns-clause-puts g c = λ h order s.
    let b = c.args.graph.now in
    part_ends row_bytes c.args.output.now c.loop-number.output 36 c.loop-number.number-index (rows_from h order 0 order) blank_row (rows_wide h order s.ordered s.wide)
    (omega (arith, filed_length b h order s, length_rows h order order 0, c.loop-number-test.false, ap length c.by_id-number-items.ensures, length_listed b)) (c.loop-number.invariant.puts h order s)
