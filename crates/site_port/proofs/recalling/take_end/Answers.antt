use Rattle.std.proofs.Common.{◌≡◌, ◌∙◌, ℕ, ◌<◌, ◌++◌, ◌∷◌, suc, List, true, Some, length, slice_get, take, drop, get_or, sym, ap, subst, eqb-true, arith}
use Rattle.std.specs.Prelude.{◌==◌}
use Rattle.std.proofs.lemmas.Bool.{and_parts}
use Rattle.std.proofs.lemmas.Option.{slice_get-get_or}
use Rattle.site_port.specs.declared.waiting.Late.{Late}
use Rattle.site_port.specs.Ends.{is_awaited as is_awaited_end}
use Rattle.site_port.specs.Port.{HasTaken}
use Rattle.site_port.proofs.Lists.{split_at}
use Rattle.site_port.proofs.recalling.take_end.Goals as goal

taken : (old new : List Late) (p node number : ℕ) (x : Late) → p < length old → x ≡ get_or old p x → is_awaited_end (Some (node, number)) x ≡ true → new ≡ take p old ++ drop (suc p) old → HasTaken node number old (Some x.outcome) new
taken old new p node number x lt is awaited left = (take p old, drop (suc p) old, split_at old p x lt is ∙ ap (λ z. take p old ++ z ∷ drop (suc p) old) same, left)
  where
    parts : (x.session ≡ node) × (x.number ≡ number)
    parts = let both = and_parts (x.session == node) (x.number == number) awaited in (eqb-true x.session node both.0, eqb-true x.number number both.1)

    same : x ≡ record { session = node; number = number; outcome = x.outcome }
    same = ap (λ s. record { session = s; number = x.number; outcome = x.outcome }) parts.0 ∙ ap (λ n. record { session = node; number = n; outcome = x.outcome }) parts.1

pub returns : goal.returns
returns c =
    let xs = c.args.late.now.items in
    let p = c.place_of-place.result in
    let x = c.remove.result in
    let v = c.deref.ensures.value in
    let is = c.remove.ensures.value in
    let lt : p < length xs = omega (arith, c.place_of-place.ensures.within, ap length v, c.len.ensures, c.if-place-len.false, c.args.late.now.ok.0) in
    let there = subst (λ (ys : List Late). (l : Late) → slice_get ys p ≡ Some l → is_awaited_end (Some (c.args.session, c.args.number)) l ≡ true) v c.place_of-place.ensures.there in
    taken xs c.remove.new.self.items p c.args.session c.args.number x lt is (there x (slice_get-get_or xs p x lt ∙ ap Some (sym is))) c.remove.ensures.items
