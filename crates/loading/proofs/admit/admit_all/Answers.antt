use Rattle.std.proofs.Common.{◌≡◌, ◌+◌, ◌-◌, drop, sym, refl, ◌∙◌, subst, arith}
use Rattle.frontier.specs.Heaps.{TakenOut}
use Rattle.graph_reader.specs.Bytes.{told_count}
use Rattle.loading.specs.Filling.{Admitted}
use Rattle.loading.specs.Waiting.{by_level}
use Rattle.loading.proofs.Finishing.{admitted}
use Rattle.loading.proofs.Progressing.{Progress, progress_none, progress_more, next_fits}
use Rattle.graph_reader.proofs.Sources.{file_sound, no_fault}
use Rattle.loading.proofs.admit.admit_all.Goals as goal

pub loop-next-init : goal.loop-next-init
loop-next-init g c =
    let k = g.K.LabelKind in
    let file = c.args.source.now.file.now in
    let none : 0 ≡ told_count file - c.args.queue.now.count = omega (arith, c.requires.all) in (
      subst (Progress k.start k.grown file c.args.graph.now c.args.graph.now c.args.queue.now.entries.now c.args.queue.now.entries.now c.args.places.now c.args.places.now) none
          (progress_none k.start k.grown file c.args.graph.now c.args.queue.now.entries.now c.args.places.now c.requires.waiting c.requires.listed c.requires.room),
      omega (arith, c.requires.all),
      refl,
    )

pub admit-requires : goal.admit-requires
admit-requires g c =
    let k = g.K.LabelKind in
    let source = c.args.source.now in
    let file = source.file.now in
    let sound = file_sound source in
    let before = c.loop-next.queue in
    let w = before.count in
    let n = told_count file - w in
    let old = before.entries.now in
    let new = c.pop.new.self.entries.now in
    let x = c.in-Some.next in
    let is : w ≡ told_count file - n = omega (arith, c.loop-next.invariant.1) in
    let t = subst (λ w. TakenOut by_level old new w x) is c.in-Some.ensures.cases.1 in
    let next = next_fits k.start k.grown file c.args.graph.now c.args.queue.now.entries.now c.args.places.now sound c.requires.room c.loop-next.graph old new c.loop-next.places n x
    c.loop-next.invariant.0 c.in-Some.ensures.long t in
    record {
      held = next.within;
      long = next.places_room;
      sound = (sound.dated x.position next.within, sound.short x.position next.within);
      listed = λ j lt. sound.held x.position j next.within lt;
      numbered = next.numbered;
      room = next.room;
      parent_room = next.parent_room;
    }

pub loop-next-preserved : goal.loop-next-preserved
loop-next-preserved g c =
    let k = g.K.LabelKind in
    let source = c.args.source.now in
    let file = source.file.now in
    let before = c.loop-next.queue in
    let w = before.count in
    let n = told_count file - w in
    let old = before.entries.now in
    let after = c.pop.new.self in
    let new = after.entries.now in
    let x = c.in-Some.next in
    let is : w ≡ told_count file - n = omega (arith, c.loop-next.invariant.1) in
    let fewer = c.in-Some.ensures.cases.0 in
    let t = subst (λ w. TakenOut by_level old new w x) is c.in-Some.ensures.cases.1 in
    let rest = subst (λ w. drop w new ≡ drop w old) is c.in-Some.ensures.rest in
    let more : n + 1 ≡ told_count file - after.count = omega (arith, fewer, c.loop-next.invariant.1) in (
      subst (Progress k.start k.grown file c.args.graph.now c.admit.new.graph c.args.queue.now.entries.now new c.args.places.now c.admit.new.places) more
          (progress_more k.start k.grown file c.args.graph.now c.args.queue.now.entries.now c.args.places.now (file_sound source) c.requires.room c.loop-next.graph old new c.loop-next.places n x
          c.loop-next.invariant.0 c.in-Some.ensures.long t c.admit.new.graph c.admit.new.places c.admit.ensures.places rest c.admit.ensures.tables c.admit.ensures.filled),
      omega (arith, fewer, c.loop-next.invariant.1),
      c.in-Some.ensures.same_reference ∙ c.loop-next.invariant.2,
    )

pub returns : goal.returns
returns g c =
    let k = g.K.LabelKind in
    let source = c.args.source.now in
    let file = source.file.now in
    let none = c.in_default.ensures.cases in
    let all : told_count file - c.loop-next.queue.count ≡ told_count file = omega (arith, none.0) in
    record {
      admitted =
          subst (λ q. Admitted k.start k.grown file c.args.graph.now c.loop-next.graph c.args.queue.now.entries.now q.entries.now c.args.places.now c.loop-next.places) (sym none.1)
          (admitted k.start k.grown file source.small (no_fault source) c.args.graph.now c.loop-next.graph c.args.queue.now.entries.now c.loop-next.queue.entries.now c.args.places.now
          c.loop-next.places (told_count file - c.loop-next.queue.count) all c.requires.room.place_room c.loop-next.invariant.0);
      same_reference = c.in_default.ensures.same_reference ∙ c.loop-next.invariant.2;
    }
