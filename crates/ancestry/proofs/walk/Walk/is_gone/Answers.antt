use Rattle.std.proofs.Common.{subst, sym, rules}
use Rattle.std.proofs.lemmas.Bool.{eqb-true, eq-eqb}
use Rattle.ancestry.specs.Painting.{Progress, NoneBears}
use Rattle.ancestry.proofs.Tidying.{count_none, none_counts}
use Rattle.ancestry.proofs.walk.Walk.is_gone.Goals as goal

pub returns : goal.returns
returns g c =
    let w = c.self.inside in
    let P : Progress → Type 0 = NoneBears c.args.paint in (
      λ e. subst P c.self.view_is (count_none _ _ _ _ _ w.queue.within c.self.invariant.1 c.args.paint _ (search rules) c.requires (eqb-true _ _ e)),
      λ none. eq-eqb _ _ (none_counts _ _ _ _ _ w.queue.within c.self.invariant.1 c.args.paint _ (search rules) c.requires (subst P (sym c.self.view_is) none)),
    )
