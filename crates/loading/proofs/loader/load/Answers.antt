use Rattle.std.proofs.Common.{◌≤◌, length, Ok, sym, ap, ◌∙◌, subst}
use Rattle.graph_reader.specs.Bytes.{told_count}
use Rattle.graph_reader.proofs.Options.{never_none}
use Rattle.history.specs.Graph.{capacity, parent_capacity}
use Rattle.history.specs.Model.{number_or}
use Rattle.loading.specs.Filling.{Roomy}
use Rattle.loading.specs.Loads.{Loaded}
use Rattle.loading.proofs.Answering.{model_refusal, file_accepted, file_count}
use Rattle.loading.proofs.Refusing.{loadable}
use Rattle.loading.proofs.loader.load.Goals as goal

pub fill-requires : goal.fill-requires
fill-requires g c =
    let b = c.args.graph.now in
    let source = c.in_ok-source in
    let l = loadable b.count (capacity b) (parent_capacity b) c.args.file.now (length c.args.queue.now) (length c.args.places.now) (sym source.ensures.refusal) in
    let is = sym source.ensures.same in
    record {
      room = subst (λ f. Roomy f b c.args.places.now) is
          (record { empty = l.empty; unused = b.unused l.empty; commit_room = l.room.commit_room; parent_room = l.room.parent_room; place_room = l.room.place_room });
      queue = subst (λ f. told_count f ≤ length c.args.queue.now) is l.room.queue_room;
    }

pub returns-in_err-source-clause-accepts : goal.returns-in_err-source-clause-accepts
returns-in_err-source-clause-accepts g c = λ m h order s e w o is a p q l.
    let k = g.K.LabelKind in
    never_none c.in_err-source.field-0.0
    (c.in_err-source.ensures.refusal
    ∙ file_accepted k.start k.grown m c.args.graph.now s c.args.file.now (length c.args.queue.now) (length c.args.places.now) h order e w o is a p q l)

pub returns : goal.returns
returns g c =
    let k = g.K.LabelKind in
    let b = c.args.graph.now in
    let file = c.args.file.now in
    let queue = length c.args.queue.now in
    let places = length c.args.places.now in
    let fine = c.in_ok-source.ensures.refusal in
    let same = c.in_ok-source.ensures.same in
    let count = c.count.ensures ∙ ap told_count same in
    record {
      reply = λ m s. ap Ok count ∙ ap (number_or (told_count file)) (fine ∙ model_refusal k.start k.grown m b s file queue places);
      loaded = subst (λ f. Loaded k.start k.grown f b c.fill.new.graph c.args.queue.now c.fill.new.queue c.args.places.now c.fill.new.places) same c.fill.ensures;
      accepts = λ m h order s e w o is a p q l. ap Ok (count ∙ file_count k.start k.grown m b s file queue places h order e w o is a p q l);
    }
