use Rattle.std.proofs.Common.{eqb-true, eq-eqb}
use Rattle.std.proofs.lemmas.Slice.Eq.{slice_eq-Decides}
use Rattle.equality.proofs.lists.same_cohorts.Goals as goal

pub returns : goal.returns
returns c = slice_eq-Decides (λ x y. (eqb-true x y, eq-eqb x y)) c.args.a.now c.args.b.now c.eq.result c.eq.ensures
