use Rattle.std.proofs.Common.{◌%◌, refl, ap, ◌∙◌, arith}
use Rattle.graph_file.specs.Encoding.{first_word, second_word}
use Rattle.graph_file.specs.Placing.{placed}
use Rattle.graph_file.specs.Words.{word}
use Rattle.graph_file.proofs.DataRows.{row_put, same_bytes, word_low}
use Rattle.graph_file.proofs.Filing.{filed_tree, filed_wide, filed_date, filed_generation, filed_parents}
use Rattle.graph_file.proofs.rows.put_row.Goals as goal

pub returns-clause-puts : goal.returns-clause-puts
returns-clause-puts g c = λ h order s.
    let b = c.args.graph.now in
    let o = c.args.output.now in
    let n = c.args.number in
    let start = c.args.start in
    let held = c.requires.held in
    let row = c.row_at-row.result in
    let is = c.row_at-row.ensures in
    let given = c.parents_at-parents.result.now in
    let ps = filed_parents b h order s n given c.parents_at-parents.ensures in
    row_put o c.put_bytes.new.self c.put_word.new.self c.put_word-2.new.self c.put_word-3.new.self c.put_word-4.new.self row.tree.bytes
    (word c.first_word.result) (word c.second_word.result) (word c.generation_word.result) (word c.low_word.result) c.requires.room (filed_wide b h order s n row held is) refl refl refl
    c.put_bytes.ensures.puts c.put_word.ensures.puts c.put_word-2.ensures.puts c.put_word-3.ensures.puts c.put_word-4.ensures.puts
    (omega (arith, c.put_bytes.ensures.moved.2, filed_wide b h order s n row held is)) c.put_word.ensures.moved.2 c.put_word-2.ensures.moved.2 c.put_word-3.ensures.moved.2
    ∙ ap (placed o.bytes.now o.at)
    (same_bytes
    (filed_tree b h order s n row held is)
    (ap word (c.first_word.ensures h order s ∙ ap (first_word order) ps))
    (ap word (c.second_word.ensures h order s) ∙ word_low (second_word order start given) ∙ ap (λ l. word (second_word order start l)) ps)
    (ap word c.generation_word.ensures ∙ word_low _ ∙ ap word (filed_generation b h order s n row held is))
    (ap word (c.low_word.ensures ∙ ap (λ x. x % 4294967296) (filed_date b h order s n row held is))))
