use Rattle.std.proofs.Common.{sym, ◌∙◌, ap₂, arith}
use Rattle.std.proofs.lemmas.List.{drop_all}
use Rattle.history.specs.Ids.{precedes}
use Rattle.history.proofs.Ids.{precedes_on, precedes_at}
use Rattle.history.proofs.object_id.bytes_before.Goals as goal

pub returns-then-x-y : goal.returns-then-x-y
returns-then-x-y c =
    sym (c.loop-i.invariant ∙ precedes_at c.args.a c.args.b c.loop-i.i (omega arith) (omega arith) c.if-x-y.true)

pub loop-i-preserved : goal.loop-i-preserved
loop-i-preserved c =
    c.loop-i.invariant ∙ precedes_on c.args.a c.args.b c.loop-i.i (omega arith) (omega arith) c.if-x-y.false

pub returns : goal.returns
returns c =
    sym (c.loop-i.invariant ∙ ap₂ precedes (drop_all c.loop-i.i c.args.a (omega arith)) (drop_all c.loop-i.i c.args.b (omega arith)))
