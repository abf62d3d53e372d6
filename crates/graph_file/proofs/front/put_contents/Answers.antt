use Rattle.std.proofs.Common.{sym, ap, ◌∙◌, arith}
use Rattle.graph_file.specs.Placing.{placed}
use Rattle.graph_file.proofs.Fronts.{all_entries, contents_is}
use Rattle.graph_file.proofs.front.put_contents.Goals as goal

pub returns-clause-puts : goal.returns-clause-puts
returns-clause-puts c = λ l s.
    let o = c.args.output.now in
    all_entries o c.put_entry.new.output c.put_entry-2.new.output c.put_entry-3.new.output c.put_last_entries.new.output c.args.sizes.commits c.args.sizes.edges c.front-first.result
    (omega arith) c.front-first.ensures c.put_entry.ensures.puts c.put_entry-2.ensures.puts c.put_entry-3.ensures.puts c.put_last_entries.ensures.puts
    c.put_entry.ensures.moved.2 c.put_entry-2.ensures.moved.2 c.put_entry-3.ensures.moved.2
    ∙ ap (placed o.bytes.now o.at) (sym (contents_is l c.args.sizes.commits c.args.sizes.edges s))
