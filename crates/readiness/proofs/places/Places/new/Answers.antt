use Rattle.std.proofs.Common.{◌≡◌, List, [], ◌∷◌, Option, None, All, refl, sym, ap, subst, length, arith, length-append}
use Rattle.std.proofs.lemmas.List.Elements.{All-push}
use Rattle.readiness.specs.declared.connection.Connection.{Connection}
use Rattle.readiness.proofs.places.Places.new.Goals as goal

pub loop-preserved : goal.loop-preserved
loop-preserved g c =
    let xs = c.loop.free.places.items in
    let pushed = c.in_ok-push.ensures.items in
    let count = c.loop.invariant.count in
    record {
      count = let n = ap length pushed in omega (arith, n, length-append xs (None ∷ []), count);
      free = subst (λ (ys : List (Option (Connection g.row.L.Denot))). All (λ c. c ≡ None) ys) (sym pushed) (All-push (λ c. c ≡ None) xs None c.loop.invariant.free refl);
    }
