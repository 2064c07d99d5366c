use Rattle.std.proofs.Common.{◌≡◌, ◌∙◌, ◌<◌, true, sym, ap, subst, rules, Some}
use Rattle.std.specs.Prelude.{nat_lt}
use Rattle.std.specs.List.{list_all}
use Rattle.messages.specs.Topology.{home_of}
use Rattle.client.proofs.Opening.{home_below}
use Rattle.client.proofs.session.home.Goals as goal

pub new-requires-clause-below : goal.new-requires-clause-below
new-requires-clause-below c =
    let top = c.args.topology.now in
    let all : list_all (λ x. nat_lt x top.dcs) top.homes ≡ true = sym (ap (list_all (λ x. nat_lt x top.dcs)) c.homes-homes.ensures.value) ∙ c.homes-homes.ensures.homes in
    let home : home_of top c.args.node ≡ Some c.in-Some.dc = search rules in
    subst (λ n. c.in-Some.dc < n) (sym c.dcs.ensures.value) (home_below top c.args.node c.in-Some.dc all home)
