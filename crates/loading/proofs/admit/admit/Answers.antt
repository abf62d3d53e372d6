use Rattle.std.proofs.Common.{◌≡◌, ℕ, ◌<◌, ◌≤◌, map, length, get_or, set, None, sym, ap, ◌∙◌, subst, arith}
use Rattle.std.proofs.lemmas.List.{length-map, get_or-map}
use Rattle.graph_reader.specs.FileCommits.{file_commit, renumbered}
use Rattle.history.specs.Graph.{Filled}
use Rattle.history.specs.History.{Commit, find_id}
use Rattle.history.specs.Model.{plus}
use Rattle.history.specs.Room.{Appended}
use Rattle.loading.proofs.Lists.{same_commit}
use Rattle.loading.proofs.admit.admit.Goals as goal

pub append_unordered-number-requires : goal.append_unordered-number-requires
append_unordered-number-requires g c =
    let file = c.args.source.now.file.now in
    let ps = (file_commit file c.args.position).parents in
    let f : ℕ → ℕ = λ q. get_or c.args.places.now q 0 in
    let are = c.as_slice-2.ensures.value ∙ c.numbers_of-numbers.ensures ∙ ap (map f) (c.as_slice.ensures.value ∙ c.parents-positions.ensures) in
    let long = ap length are ∙ length-map ps f in
    record {
      fits = record {
        dated = subst (λ d. d ≤ 17179869183) (sym c.date.ensures) c.requires.sound.0;
        few = omega (arith, long, c.requires.sound.1);
        held = λ k lt.
            let l : k < length ps = omega (arith, long) in
            subst (λ x. x < c.args.graph.now.count) (sym (ap (λ ns. get_or ns k 0) are ∙ get_or-map f ps k 0 0 l)) (c.requires.numbered k l);
        room = c.requires.room;
        parent_room = omega (arith, long, c.requires.parent_room);
      };
    }

pub returns : goal.returns
returns g c =
    let k = g.K.LabelKind in
    let file = c.args.source.now.file.now in
    let p = c.args.position in
    let ps = (file_commit file p).parents in
    let f : ℕ → ℕ = λ q. get_or c.args.places.now q 0 in
    let are = c.as_slice-2.ensures.value ∙ c.numbers_of-numbers.ensures ∙ ap (map f) (c.as_slice.ensures.value ∙ c.parents-positions.ensures) in
    let done = c.append_unordered-number.ensures in
    let given : Commit = record { id = c.id.result.bytes; tree = c.tree.result.bytes; date = c.date.result; parents = c.as_slice-2.result.now } in
    let same : given ≡ renumbered c.args.places.now (file_commit file p) = same_commit c.id.ensures c.tree.ensures c.date.ensures are in
    record {
      places = ap (set c.args.places.now p) done.number;
      tables = subst (Appended c.args.graph.now c.append_unordered-number.new.self) (ap length are ∙ length-map ps f) done.tables;
      filled = λ m s fresh.
          subst (λ x. Filled k.start k.grown (plus m x) c.append_unordered-number.new.self) same
          (done.filled m s (subst (λ id. find_id m.commits id ≡ None) (sym c.id.ensures) fresh));
    }
