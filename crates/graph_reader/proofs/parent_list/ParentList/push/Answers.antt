use Rattle.std.proofs.Common.{refl, rules}
use Rattle.std.proofs.lemmas.List.{take_more_set}
use Rattle.graph_reader.proofs.parent_list.ParentList.push.Goals as goal

pub returns : goal.returns
returns c = record {
  size = refl;
  list = let l = c.args.self.now in take_more_set l.positions l.size c.args.position (search rules);
}
