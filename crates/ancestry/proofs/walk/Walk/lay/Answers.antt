use Rattle.std.proofs.Common.{arith, rules}
use Rattle.ancestry.proofs.Bits.{clear_zero}
use Rattle.ancestry.proofs.Laying.{held, lay_again, lay_joins}
use Rattle.ancestry.proofs.Tidying.{room_for}
use Rattle.ancestry.proofs.walk.Walk.lay.Goals as goal

pub push-requires : goal.push-requires
push-requires g c =
    let w = c.self.inside in
    let room = room_for _ _ _ _ _ w.queue.within c.self.invariant.1 c.args.number (search rules)
    (clear_zero _ (search rules)) in
    omega (arith, room, c.self.invariant.1.bound, c.self.invariant.1.room)

pub invariant_of-self : goal.invariant_of-self
invariant_of-self g c =
    let w = c.self.inside in (
      c.self.invariant.0,
      lay_joins _ _ _ _ _ w.queue.within c.self.invariant.1 (search rules) c.args.number (search rules)
          c.from-present.result c.with-paint.result c.args.arriving _ c.into.result (search rules) (search rules) c.requires.paints (search rules) (search rules) (search rules)
          c.push.new.self.entries.now c.push.new.self.count c.push.ensures.long c.push.new.self.within c.push.ensures.holds,
    )

pub overflow_sub-self : goal.overflow_sub-self
overflow_sub-self g c =
    let w = c.self.inside in
    held _ _ _ _ _ w.queue.within c.self.invariant.1 (search rules) c.args.number (search rules)
    c.from-present.result c.with-paint.result c.args.arriving _ c.into.result (search rules) (search rules) c.requires.paints (search rules) (search rules) _ (search rules) (search rules)

pub invariant_of-self-else-eq : goal.invariant_of-self-else-eq
invariant_of-self-else-eq g c =
    let w = c.self.inside in (
      c.self.invariant.0,
      lay_again _ _ _ _ _ w.queue.within c.self.invariant.1 (search rules) c.args.number (search rules)
          c.from-present.result c.with-paint.result c.args.arriving _ c.into.result (search rules) (search rules) c.requires.paints (search rules) (search rules) _ (search rules) (search rules),
    )
