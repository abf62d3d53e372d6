use Rattle.std.proofs.Common.{length, drop, sym, ap, subst, arith, length-append, length-drop}
use Rattle.history.specs.Tables.{Rising, Complete}
use Rattle.history.proofs.Commits.{represents}
use Rattle.history.proofs.Reordering.{rising_front, complete_front}
use Rattle.history.proofs.graph.CommitGraph.put_order.Goals as goal

pub returns-clause-represents : goal.returns-clause-represents
returns-clause-represents g c = λ m f rising complete.
    let b = c.args.self.now in
    let n = b.count in
    let front = c.copy_from_slice.new.self in
    let rest = drop n b.order.now in
    let is = c.copy_from_slice.ensures.after in
    let long = ap length is in
    represents g.K.LabelKind.start g.K.LabelKind.grown m _
    record {
      commits = f.commits;
      labels = f.labels;
      levels = f.levels;
      corrected = f.corrected;
      listed = f.listed;
      wellformed = f.wellformed;
      room = omega (arith, f.room, b.listed, long, c.requires.long, length-append front rest, length-drop n b.order.now);
      parent_room = f.parent_room;
    }
    (rising_front front rest n (omega (arith, long, c.requires.long)) b.rows.now (subst (λ l. Rising b.rows.now l n) (sym is) rising))
    (complete_front front rest n (omega (arith, long, c.requires.long)) (subst (λ l. Complete l n) (sym is) complete))
