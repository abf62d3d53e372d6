use Rattle.std.proofs.Common.{◌≡◌, ◌-◌, ◌<◌, ◌≤◌, length, get_or, take, drop, sym, ap, ◌∙◌, subst, arith, rules}
use Rattle.std.proofs.lemmas.List.{length-take-le, get_or-take, nil_from_length}
use Rattle.graph_reader.specs.Bytes.{told_count}
use Rattle.history.proofs.Commits.{filled_length}
use Rattle.loading.proofs.Laying.{loaded}
use Rattle.loading.proofs.loader.fill.Goals as goal

pub put_order-requires : goal.put_order-requires
put_order-requires g c =
    let n = told_count c.args.source.now.file.now in
    let places = c.admit_all.new.places in
    let is : c.count.result - 0 ≡ n = omega (arith, c.count.ensures) in
    let long : n ≤ length places = omega (arith, c.admit_all.auto.places, c.requires.room.place_room) in
    let count = c.admit_all.ensures.admitted.count in
    record {
      long = ap (λ k. length (take k places)) is ∙ length-take-le n places long ∙ sym count;
      held = λ i lt.
          let l : i < n = omega arith in
          subst (λ x. x < c.admit_all.new.graph.count) (sym (ap (λ k. get_or (take k places) i 0) is ∙ get_or-take n places i 0 l)) (omega (arith, c.admit_all.ensures.admitted.numbers i l, count));
    }

pub returns : goal.returns
returns g c =
    let k = g.K.LabelKind in
    let file = c.args.source.now.file.now in
    let places = c.admit_all.new.places in
    let is : c.count.result - 0 ≡ told_count file = omega (arith, c.count.ensures) in
    let l = loaded k.start k.grown file c.args.graph.now c.admit_all.new.graph c.put_order.new.self c.queue_all-waiting.result.entries.now c.admit_all.new.queue.entries.now c.args.places.now places
    (take (c.count.result - 0) places) c.admit_all.ensures.admitted (ap (λ n. take n places) is) c.put_order.ensures.tables c.put_order.ensures.represents
    (λ m s. nil_from_length m.commits (filled_length k.start k.grown m c.args.graph.now s ∙ c.requires.room.empty)) in
    record {
      count = l.count;
      tables = l.tables;
      later_queue = subst (λ q. drop (told_count file) q ≡ drop (told_count file) c.args.queue.now) (search rules) (l.later_queue ∙ c.queue_all-waiting.ensures.rest);
      later_places = l.later_places;
      history = l.history;
    }
