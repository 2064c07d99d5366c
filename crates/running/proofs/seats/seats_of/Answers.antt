use Rattle.std.proofs.Common.{◌≡◌, length, sym, subst, rules}
use Rattle.running.specs.Loaded.{HaveAsked, AreLoadedSeats}
use Rattle.running.proofs.Loading.{new_asked, written_back}
use Rattle.running.proofs.seats.seats_of.Goals as goal

pub returns-in-Ok-clause-ok : goal.returns-in-Ok-clause-ok
returns-in-Ok-clause-ok c =
    let s = c.args.script.now in
    let old = c.in_ok-seats.seats.items in
    let new = c.load_all.new.seats in
    let same : c.as_mut_slice.result.now ≡ old = search rules in
    let events : c.as_slice.result.now ≡ s.events = search rules in
    let have : HaveAsked s.events old new = subst (λ l. HaveAsked s.events l new) same (subst (λ e. HaveAsked e c.as_mut_slice.result.now new) events c.in-Ok.ensures.ok) in
    let len : c.in_ok-seats.seats.len ≡ length old = search rules in
    subst (λ l. AreLoadedSeats s 32 1000000 l) (sym (written_back new old c.in_ok-seats.seats.len have.count len))
    (new_asked s 32 1000000 old new c.in_ok-seats.ensures.ok have)
