use Rattle.std.proofs.Common.{◌+◌, length, ap, ◌∙◌, ap₂, arith}
use Rattle.std.specs.List.{between}
use Rattle.std.specs.Option.{option_map}
use Rattle.std.proofs.lemmas.List.FromFn.{length-map-range_with_len}
use Rattle.history.specs.declared.load_fault.ChunkFault.TheVariants.{WrongFanOut}
use Rattle.graph_file.specs.Layout.{fan_out}
use Rattle.graph_reader.specs.Bytes.{id_at, ids_in}
use Rattle.graph_reader.specs.ChunkFaults.{fan_out_tests}
use Rattle.graph_reader.specs.Faults.{first_failing}
use Rattle.graph_reader.proofs.reading.check_fan_out.Goals as goal

pub fan_out_counts-requires : goal.fan_out_counts-requires
fan_out_counts-requires c =
    let f = c.args.parts.now in
    omega (arith, ap length (c.ids.ensures f.count f.identified), length-map-range_with_len (id_at f.ids.bytes.now) 0 f.count, f.few)

pub returns : goal.returns
returns c =
    let f = c.args.parts.now in
    let h = c.requires.held in
    c.check_counts.ensures (ids_in f.ids.bytes.now f.count) (λ i lt. c.fan_out_counts.ensures i lt ∙ ap (λ ids. fan_out ids i) (c.ids.ensures f.count f.identified))
    ∙ ap₂ (λ at ids. option_map WrongFanOut (first_failing (fan_out_tests (between at (at + 1024) c.args.file.now) at ids))) c.chunks_begin-begin.ensures.value
    (ap₂ ids_in h.ids h.count)
