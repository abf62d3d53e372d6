use Rattle.std.proofs.Common.{◌+◌, ◌*◌, length, refl, ap, ◌∙◌, arith}
use Rattle.graph_file.specs.Placing.{ids_of}
use Rattle.graph_file.proofs.FanOuts.{fans_next, fans_end}
use Rattle.graph_file.proofs.Placed.{puts_none, moved_on}
use Rattle.graph_file.proofs.Sources.{length_listed}
use Rattle.graph_file.proofs.fan_out.put_fan_out.Goals as goal

pub loop-byte-init : goal.loop-byte-init
loop-byte-init g c =
    record {
      within = omega arith;
      moved = (refl, refl, omega arith);
      puts = λ h order s. (λ i lt. absurd (omega arith), puts_none c.args.output.now);
    }

pub loop-byte-preserved : goal.loop-byte-preserved
loop-byte-preserved g c =
    let b = c.args.graph.now in
    let o = c.args.output.now in
    let p = c.loop-byte.output in
    let q = c.put_word.new.self in
    let byte = c.loop-byte.byte in
    let found = c.count_up_to-count in
    let all = c.by_id-numbers.ensures in
    let inv = c.loop-byte.invariant in
    record {
      within = omega (arith, found.ensures.within, inv.within, ap length all ∙ length_listed b);
      moved = moved_on o p q (4 * byte) 4 (4 * (byte + 1)) inv.moved c.put_word.ensures.moved (omega arith);
      puts = λ h order s.
          fans_next b c.by_id-numbers.result.now all o p q byte c.loop-byte.count found.result inv.within found.ensures.counted inv.moved.2 c.put_word.ensures.puts (omega arith) h order s (inv.puts h order s);
    }

pub returns-2-clause-puts : goal.returns-2-clause-puts
returns-2-clause-puts g c = λ h order s.
    let o = c.args.output.now in
    let q = c.put_word.new.self in
    let byte = c.loop-byte.byte in
    let found = c.count_up_to-count in
    let inv = c.loop-byte.invariant in
    fans_end (ids_of h order) o q (byte + 1) (omega arith)
    (fans_next c.args.graph.now c.by_id-numbers.result.now c.by_id-numbers.ensures o c.loop-byte.output q byte c.loop-byte.count found.result inv.within found.ensures.counted inv.moved.2
    c.put_word.ensures.puts (omega arith) h order s (inv.puts h order s)).1
