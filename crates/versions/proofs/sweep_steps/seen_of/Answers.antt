use Rattle.std.proofs.Common.{rules, ◌≡◌, sym, subst, ◌+◌, ◌++◌, ◌∷◌, [], true, false, nat_le, arith}
use Rattle.versions.specs.Sweeps.{AreSeen, AreAll}
use Rattle.versions.proofs.SweepSteps.{evt_at, seen_pushed, all_pushed, all_passed}
use Rattle.versions.proofs.sweep_steps.seen_of.Goals.{then-le+in_ok-push, else-le}
use Rattle.versions.proofs.sweep_steps.seen_of.Goals as goal

pub loop-i-preserved : goal.loop-i-preserved
loop-i-preserved c =
    let rs = c.args.ranges.now in
    let t = c.args.time in
    let i = c.loop-i.i in
    let x = c.index-ranges-i.result in
    let inv = c.loop-i.invariant in
    let lt = c.loop-i-test.true in
    elim c.if-le.branch [
      | then-le+in_ok-push w ↦
          let now : nat_le x.evt t ≡ true = search rules in
          let is : c.if-le.seen.items ≡ c.loop-i.seen.items ++ i ∷ [] = search rules in
          record {
            inside = omega (arith, lt);
            seen = subst (AreSeen rs t) (sym is) (seen_pushed rs t i c.loop-i.seen.items lt (evt_at rs i t x true lt (search rules) now) inv.seen);
            all = subst (AreAll rs t (i + 1)) (sym is) (all_pushed rs t i c.loop-i.seen.items inv.all);
          }
      | else-le w ↦
          let not : nat_le x.evt t ≡ false = search rules in
          let is : c.if-le.seen.items ≡ c.loop-i.seen.items = search rules in
          record {
            inside = omega (arith, lt);
            seen = subst (AreSeen rs t) (sym is) inv.seen;
            all = subst (AreAll rs t (i + 1)) (sym is) (all_passed rs t i c.loop-i.seen.items (evt_at rs i t x false lt (search rules) not) inv.all);
          }
    ]
