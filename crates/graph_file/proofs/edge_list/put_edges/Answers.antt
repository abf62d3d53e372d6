use Rattle.std.proofs.Common.{◌+◌, ◌*◌, get_or, take, refl, ap, ◌∙◌, arith}
use Rattle.history.specs.Graph.{history}
use Rattle.history.specs.History.{parents_of}
use Rattle.graph_file.specs.Encoding.{edges_from, extra}
use Rattle.graph_file.specs.Layout.{edge_bytes}
use Rattle.graph_file.specs.Placing.{placed, extras, listed}
use Rattle.graph_file.proofs.EdgeWords.{edges_grow, length_edge_words}
use Rattle.graph_file.proofs.Filing.{filed_length, filed_number, filed_extras, filed_parents}
use Rattle.graph_file.proofs.Placed.{puts_none, moved_on}
use Rattle.graph_file.proofs.Sources.{next_within, next_held, next_room, next_extras}
use Rattle.graph_file.proofs.edge_list.put_edges.Goals as goal

pub loop-number-init : goal.loop-number-init
loop-number-init g c =
    record {
      moved = (refl, refl, omega arith);
      puts = λ h order s. puts_none c.args.output.now;
    }

pub put_edges_of-requires : goal.put_edges_of-requires
put_edges_of-requires g c =
    let b = c.args.graph.now in
    let i = c.loop-number.number-index in
    let ns = c.by_id-number-items.result.now in
    let all = c.by_id-number-items.ensures in
    let lt = c.loop-number-test.true in
    let ps = c.parents_at.result.now in
    let its = c.parents_at.ensures in
    let m = c.loop-number.invariant.moved in
    record {
      held = next_held b ns all i lt ps its;
      room = omega (arith, c.requires, m.1, m.2, next_room b ns all i lt ps its);
    }

pub loop-number-preserved : goal.loop-number-preserved
loop-number-preserved g c =
    let b = c.args.graph.now in
    let o = c.args.output.now in
    let i = c.loop-number.number-index in
    let p = c.loop-number.output in
    let q = c.put_edges_of.new.output in
    let ns = c.by_id-number-items.result.now in
    let all = c.by_id-number-items.ensures in
    let lt = c.loop-number-test.true in
    let ps = c.parents_at.result.now in
    let its = c.parents_at.ensures in
    let before = extras (history b) (take i (listed b)) in
    record {
      moved = moved_on o p q (4 * before) (4 * extra ps) (4 * extras (history b) (take (i + 1) (listed b))) c.loop-number.invariant.moved c.put_edges_of.ensures.moved
          (omega (arith, next_extras b ns all i lt ps its));
      puts = λ h order s.
          edges_grow (λ m. edges_from order (parents_of h m)) o p i order q (get_or ns i 0) (omega (arith, next_within b ns all i lt, filed_length b h order s)) (filed_number b h order s ns all i)
          (c.loop-number.invariant.puts h order s)
          (omega (arith, c.loop-number.invariant.moved.2, filed_extras b h order s i, length_edge_words order h (take i order)))
          (c.put_edges_of.ensures.puts h order s ∙ ap (λ l. placed p.bytes.now p.at (edge_bytes (edges_from order l))) (filed_parents b h order s (get_or ns i 0) ps its)) (omega arith);
    }
