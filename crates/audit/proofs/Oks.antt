-- Lists of results that are all there.
use Rattle.std.proofs.Common.{◌≡◌, List, [], ◌∷◌, map, Result, Ok}
use Rattle.std.specs.Prelude.{IfOk}
use Rattle.std.specs.List.{AllZip}

pub all_ok : {Z B : Type 0} (E : Type 0) (f : Z → B) (zs : List Z) (ys : List B) → AllZip (λ z (r : Result B E). IfOk r (λ b. b ≡ f z)) zs (map Ok ys) → AllZip (λ z y. y ≡ f z) zs ys
all_ok E f [] [] h = tt
all_ok E f [] (y ∷ ys) h = absurd h
all_ok E f (z ∷ zs) [] h = absurd h
all_ok E f (z ∷ zs) (y ∷ ys) h = (h.0, all_ok E f zs ys h.1)
