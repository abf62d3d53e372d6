use Rattle.std.proofs.Common.{length, Ok, Err, ap, ◌∙◌}
use Rattle.std.proofs.lemmas.Result.{err_from_is_err_and}
use Rattle.graph_file.specs.Placing.{listed, file_size}
use Rattle.graph_file.proofs.Replies.{filed, ok_room, err_room, refused_short, written_full}
use Rattle.graph_file.proofs.writer.write.Goals as goal

pub returns-in_err-size : goal.returns-in_err-size
returns-in_err-size g c =
    let p = err_from_is_err_and c.from_residual.result c.from_residual.ensures.1 in
    rw (p.1, p.2) λ m s.
    let k = g.K.LabelKind in
    let edges = c.of-sizes.result.edges in
    let buffer = c.args.buffer.now in
    let refusal = c.in_err-size.field-0.0 in
    let reply = c.in_err-size.ensures in
    refused_short k.start k.grown m c.args.graph.now s buffer edges c.file.result c.of-sizes.ensures.edges
    (c.file.ensures ∙ ap (λ n. file_size n edges) c.of-sizes.ensures.commits) (Err refusal) reply (err_room refusal (length buffer) c.file.result reply)

pub returns : goal.returns
returns g c = λ m s.
    let k = g.K.LabelKind in
    let b = c.args.graph.now in
    let edges = c.of-sizes.result.edges in
    let buffer = c.args.buffer.now in
    let taken = c.in_ok-size.size in
    let reply = c.in_ok-size.ensures in
    written_full k.start k.grown m b s buffer edges c.file.result c.of-sizes.ensures.edges
    (c.file.ensures ∙ ap (λ n. file_size n edges) c.of-sizes.ensures.commits) (Ok taken) reply c.put_file.new.buffer
    (ok_room taken (length buffer) c.file.result reply) (c.put_file.ensures m.commits (listed b) (filed k.start k.grown m b s))
