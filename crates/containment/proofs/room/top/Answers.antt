use Rattle.std.proofs.Common.{max, ◌∙◌, rules, tests}
use Rattle.std.proofs.lemmas.Iterator.{YieldsList-from_slice}
use Rattle.std.proofs.lemmas.Iterator.Consumers.{YieldsList-from_copied, fold_from_yields_List}
use Rattle.containment.proofs.Tops.{fold_top}
use Rattle.containment.proofs.room.top.Goals as goal

pub returns : goal.returns
returns c =
    fold_from_yields_List _ max c.args.target _ c.fold.ensures.ran (YieldsList-from_copied (YieldsList-from_slice c.args.tips.now cc)) (λ a x b q k. search (rules, tests))
    ∙ fold_top c.args.tips.now c.args.target
