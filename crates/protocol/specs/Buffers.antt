-- The lists that a question is lent: their names, and the lengths that a request sets.
use Rattle.std.specs.Prelude.{ℕ, List, Some, codes, Option}
use Rattle.protocol.specs.declared.buffer.Buffer.{Buffer}
use Rattle.protocol.specs.declared.buffer.Buffer.TheVariants.{Results, Marks, Queue}
use Rattle.protocol.specs.declared.lengths.Lengths.{Lengths}

abbrev pub buffer_word : Buffer → List ℕ
buffer_word Results = codes "results"
buffer_word Marks = codes "marks"
buffer_word Queue = codes "queue"

abbrev pub length_of : Lengths → Buffer → Option ℕ
length_of l Results = l.results
length_of l Marks = l.marks
length_of l Queue = l.queue

-- the lengths with one of them set
abbrev pub with_length : Lengths → Buffer → ℕ → Lengths
with_length l Results n = record { results = Some n; marks = l.marks; queue = l.queue }
with_length l Marks n = record { results = l.results; marks = Some n; queue = l.queue }
with_length l Queue n = record { results = l.results; marks = l.marks; queue = Some n }
