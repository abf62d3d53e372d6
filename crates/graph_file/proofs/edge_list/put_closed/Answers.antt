use Rattle.std.proofs.Common.{◌+◌, ◌-◌, ◌*◌, ◌≤◌, length, get_or, take, refl, sym, ap, ◌∙◌, arith}
use Rattle.std.proofs.lemmas.List.{get_or-map, length-map}
use Rattle.graph_file.specs.Encoding.{position, positions}
use Rattle.graph_file.specs.Layout.{edge_bytes}
use Rattle.graph_file.specs.Placing.{placed}
use Rattle.graph_file.specs.Words.{word}
use Rattle.graph_file.proofs.EdgeWords.{closed_none, closed_split, length_edge_bytes}
use Rattle.graph_file.proofs.Placed.{puts_none, puts_more, moved_on, part_grows, part_ends}
use Rattle.graph_file.proofs.edge_list.put_closed.Goals as goal

pub loop-parent-init : goal.loop-parent-init
loop-parent-init g c =
    record {
      moved = (refl, refl, omega arith);
      puts = λ h order s. puts_none c.args.output.now;
    }

pub loop-parent-preserved : goal.loop-parent-preserved
loop-parent-preserved g c =
    let o = c.args.output.now in
    let p = c.loop-parent.output in
    let q = c.put_word.new.self in
    let k = c.loop-parent.parent-index in
    let others = take (length c.args.rest.now - 1) c.args.rest.now in
    record {
      moved = moved_on o p q (4 * k) 4 (4 * (k + 1)) c.loop-parent.invariant.moved c.put_word.ensures.moved (omega arith);
      puts = λ h order s.
          part_grows word o p 4 k (positions order others) 0 (λ _ _. refl) q (word c.position_of.result) (omega (arith, c.loop-parent-test.true, length-map others (position order)))
          (c.loop-parent.invariant.puts h order s) c.loop-parent.invariant.moved.2 c.put_word.ensures.puts
          (ap word (c.position_of.ensures.value h order s ∙ sym (get_or-map (position order) others k 0 0 c.loop-parent-test.true))) (omega arith);
    }

pub returns-in_default-clause-puts : goal.returns-in_default-clause-puts
returns-in_default-clause-puts g c = λ h order s.
    let o = c.args.output.now in
    puts_none o ∙ ap (λ ws. placed o.bytes.now o.at (edge_bytes ws)) (sym (closed_none order c.args.rest.now c.in_default.len_below))

pub returns-after-loop-parent-clause-puts : goal.returns-after-loop-parent-clause-puts
returns-after-loop-parent-clause-puts g c = λ h order s.
    let o = c.args.output.now in
    let p = c.loop-parent.output in
    let rest = c.args.rest.now in
    let k = c.loop-parent.parent-index in
    let others = take (length rest - 1) rest in
    let ps = positions order others in
    let last = get_or rest (length rest - 1) 0 in
    let long = length-map others (position order) in
    let end : length ps ≤ k = omega (arith, long, c.loop-parent-test.false) in
    puts_more word o p c.put_word-in-len1-up.new.self ps (2147483648 + position order last)
    (part_ends word o p 4 k ps 0 (λ _ _. refl) end (c.loop-parent.invariant.puts h order s))
    (omega (arith, c.loop-parent.invariant.moved.2, length_edge_bytes ps, end, long, c.loop-parent.auto.parent-index-end))
    (c.put_word-in-len1-up.ensures.puts ∙ ap (λ x. placed p.bytes.now p.at (word x)) (c.last_word.ensures h order s)) (omega arith)
    ∙ ap (λ ws. placed o.bytes.now o.at (edge_bytes ws)) (sym (closed_split order rest c.in-len1-up.len_at_least))
