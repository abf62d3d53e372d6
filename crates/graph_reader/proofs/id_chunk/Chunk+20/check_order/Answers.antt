use Rattle.std.proofs.Common.{◌≡◌, ◌+◌, ◌-◌, ◌*◌, ◌<◌, length, get_or, drop, Some, sym, refl, ap, ◌∙◌, arith}
use Rattle.std.specs.Option.{option_map}
use Rattle.std.specs.Slice.Iter.{windows_size, windows_rest}
use Rattle.std.proofs.lemmas.Iterator.{window_more}
use Rattle.std.proofs.lemmas.List.{length-take-le, take_all}
use Rattle.std.proofs.lemmas.List.FromFn.{length-map-range_with_len}
use Rattle.history.specs.declared.load_fault.ChunkFault.TheVariants.{UnorderedId}
use Rattle.graph_reader.specs.Bytes.{id_at, ids_in}
use Rattle.graph_reader.specs.ChunkFaults.{order_tests}
use Rattle.graph_reader.specs.Faults.{first_failing}
use Rattle.graph_reader.proofs.CountedTests.{order_passes, order_fails, order_end, two_ids}
use Rattle.graph_reader.proofs.id_chunk.Chunk+20.check_order.Goals as goal

pub slice_bounds-windows-end : goal.slice_bounds-windows-end
slice_bounds-windows-end c =
    let n = c.args.count in
    let bytes = c.args.self.now.bytes.now in
    sym (length-take-le n c.ids.result.now (omega (arith, ap length (c.ids.ensures n c.requires.within), length-map-range_with_len (id_at bytes) 0 n)))

pub loop-p-init : goal.loop-p-init
loop-p-init c =
    let n = c.args.count in
    let bytes = c.args.self.now.bytes.now in
    let ids = ids_in bytes n in
    let tests = order_tests bytes c.args.self.now.place n in
    let it = c.into_iter-p-iterator.result in
    let named = c.ids.ensures n c.requires.within in
    let long = length-map-range_with_len (id_at bytes) 0 n in
    let source : it.iter ≡ c.windows.result = ap (λ e. e.iter) c.into_iter-p-iterator.ensures.into_iter_gives ∙ c.enumerate-p-items.ensures.source in
    let first : it.count ≡ 0 = ap (λ e. e.count) c.into_iter-p-iterator.ensures.into_iter_gives ∙ c.enumerate-p-items.ensures.count in
    let whole : windows_rest it.iter ≡ ids =
    ap windows_rest source ∙ c.windows.ensures.rest ∙ take_all n c.ids.result.now (omega (arith, ap length named, long)) ∙ named in
    let none : 0 ≡ length ids - length (windows_rest it.iter) = omega (arith, ap length whole) in (
      ap windows_size source ∙ c.windows.ensures.size,
      omega (arith, ap length whole, long, first),
      whole ∙ ap (λ k. drop k ids) none,
      ap (λ k. first_failing (drop k tests)) (sym first),
    )

pub returns-then-not-rises : goal.returns-then-not-rises
returns-then-not-rises c =
    let n = c.args.count in
    let chunk = c.args.self.now in
    let bytes = chunk.bytes.now in
    let ids = ids_in bytes n in
    let s = c.loop-p.p-iterator in
    let inv = c.loop-p.invariant in
    let step = c.in-Some.ensures.steps in
    let long = length-map-range_with_len (id_at bytes) 0 n in
    let h =
    window_more ids s.iter c.next.new.self.iter (Some c.in-Some.pair) c.in-Some.pair refl step.0 (omega (arith, inv.0)) (omega (arith, inv.1, long)) inv.2 in
    let at : length ids - length (windows_rest s.iter) ≡ s.count = omega (arith, inv.1, long) in
    let lt : s.count + 1 < n = omega (arith, inv.0, inv.1, h.2) in
    let same =
    two_ids bytes chunk.place n s.count c.in-Some.pair.now lt (λ k d two. h.3 k d (omega (arith, inv.0, two)) ∙ ap (λ i. get_or ids (i + k) d) at) in
    let fails = order_fails bytes chunk.place n s.count lt (sym same ∙ sym c.rises.ensures ∙ c.if-not-rises.true) in
    ap (λ p. Some (UnorderedId p)) (c.place_of.ensures ∙ ap (λ p. chunk.place + 20 * (p + 1)) step.1)
    ∙ sym (ap (option_map UnorderedId) (inv.3 ∙ fails))

pub loop-p-preserved : goal.loop-p-preserved
loop-p-preserved c =
    let n = c.args.count in
    let chunk = c.args.self.now in
    let bytes = chunk.bytes.now in
    let ids = ids_in bytes n in
    let s = c.loop-p.p-iterator in
    let inv = c.loop-p.invariant in
    let step = c.in-Some.ensures.steps in
    let long = length-map-range_with_len (id_at bytes) 0 n in
    let h =
    window_more ids s.iter c.next.new.self.iter (Some c.in-Some.pair) c.in-Some.pair refl step.0 (omega (arith, inv.0)) (omega (arith, inv.1, long)) inv.2 in
    let at : length ids - length (windows_rest s.iter) ≡ s.count = omega (arith, inv.1, long) in
    let lt : s.count + 1 < n = omega (arith, inv.0, inv.1, h.2) in
    let same =
    two_ids bytes chunk.place n s.count c.in-Some.pair.now lt (λ k d two. h.3 k d (omega (arith, inv.0, two)) ∙ ap (λ i. get_or ids (i + k) d) at) in
    let passes = order_passes bytes chunk.place n s.count lt (sym same ∙ sym c.rises.ensures ∙ c.if-not-rises.false) in (
      step.0.0 ∙ inv.0,
      omega (arith, inv.1, h.0, step.2),
      h.1,
      inv.3 ∙ passes ∙ ap (λ k. first_failing (drop k (order_tests bytes chunk.place n))) (sym step.2),
    )

pub returns : goal.returns
returns c =
    let n = c.args.count in
    let chunk = c.args.self.now in
    let s = c.loop-p.p-iterator in
    let inv = c.loop-p.invariant in
    let ended = order_end chunk.bytes.now chunk.place n s.count (omega (arith, inv.0, inv.1, c.in-None.ensures.steps.0.1.0)) in
    sym (ap (option_map UnorderedId) (inv.3 ∙ ended))
