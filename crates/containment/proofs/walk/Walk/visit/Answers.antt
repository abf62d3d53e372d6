use Rattle.std.proofs.Common.{◌<◌, length, sym, ◌∙◌, arith}
use Rattle.std.proofs.lemmas.Bool.{and_parts, eqb-true}
use Rattle.containment.proofs.Spreads.{bits_set, room_left, marked_join, distinct_join}
use Rattle.containment.proofs.walk.Walk.visit.Goals as goal

pub push-requires : goal.push-requires
push-requires g c =
    let w = c.args.self.now in
    let lt : c.args.number < length w.marks.now = omega (arith, c.requires.within, w.sized) in
    let off = eqb-true _ _ (and_parts _ _ (sym c.is_wanted.ensures ∙ c.if-not-is_wanted.false)).0 in
    record { room = room_left w c.args.number lt off }

pub invariant_of-self-clause-marked : goal.invariant_of-self-clause-marked
invariant_of-self-clause-marked g c =
    let w = c.args.self.now in
    let q = c.push.new.self in
    let done = c.push.ensures in
    let lt : c.args.number < length w.marks.now = omega (arith, c.requires.within, w.sized) in
    let off = eqb-true _ _ (and_parts _ _ (sym c.is_wanted.ensures ∙ c.if-not-is_wanted.false)).0 in
    marked_join w c.args.number lt off q.entries.now q.count done.count done.long done.holds

pub invariant_of-self-clause-distinct : goal.invariant_of-self-clause-distinct
invariant_of-self-clause-distinct g c =
    let w = c.args.self.now in
    let q = c.push.new.self in
    let done = c.push.ensures in
    let lt : c.args.number < length w.marks.now = omega (arith, c.requires.within, w.sized) in
    let off = eqb-true _ _ (and_parts _ _ (sym c.is_wanted.ensures ∙ c.if-not-is_wanted.false)).0 in
    distinct_join w c.args.number lt off q.entries.now q.count done.count done.long done.holds

pub invariant_of-self-clause-bits : goal.invariant_of-self-clause-bits
invariant_of-self-clause-bits g c = bits_set c.args.self.now.marks.now c.args.number c.args.self.now.bits
