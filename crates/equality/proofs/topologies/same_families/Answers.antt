use Rattle.std.proofs.Common.{refl, eqb-true, eq-eqb}
use Rattle.std.proofs.lemmas.Slice.Eq.{slice_eq-Decides}
use Rattle.equality.proofs.topologies.same_families.Goals as goal

pub returns : goal.returns
returns c = slice_eq-Decides (λ x y. slice_eq-Decides (λ m n. (eqb-true m n, eq-eqb m n)) x y _ refl) c.args.a.now c.args.b.now c.eq.result c.eq.ensures
