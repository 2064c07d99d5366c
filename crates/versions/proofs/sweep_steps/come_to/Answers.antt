use Rattle.std.proofs.Common.{rules, ◌≡◌, ◌∙◌, ap, sym, subst, ℕ, List, true, false, get_or}
use Rattle.versions.specs.Sweeps.{is_come_to, IsOnWay}
use Rattle.versions.proofs.Tests.{by_cases}
use Rattle.versions.proofs.SweepSteps.{own_place, same_place, way_comes}
use Rattle.versions.proofs.sweep_steps.come_to.Goals as goal

pub is_index_come_to-requires : goal.is_index_come_to-requires
is_index_come_to-requires c = c.requires.inside (get_or c.args.ahead.now c.loop-next.next 0) (own_place c.args.ahead.now c.loop-next.next 0 c.loop-next-test.true)

pub returns-then-not-is_index_come_to-clause-end : goal.returns-then-not-is_index_come_to-clause-end
returns-then-not-is_index_come_to-clause-end c = λ by_start j e d le lt.
    let ahead = c.args.ahead.now in
    let rs = c.args.ranges.now in
    let n = c.loop-next.next in
    let name = c.args.name.now in
    let no : c.is_index_come_to.result ≡ false = search rules in
    by_cases (is_come_to name (get_or rs (get_or ahead j e) d))
    (λ yes.
    let k = by_start name n j e d le lt yes in
    let here : is_come_to name (get_or rs (get_or ahead n 0) d) ≡ true = ap (λ (i : ℕ). is_come_to name (get_or rs i d)) (same_place ahead n 0 e c.loop-next-test.true) ∙ k in
    let result = c.is_index_come_to.ensures d in
    absurd (cc))
    (λ not. not)

pub loop-next-preserved : goal.loop-next-preserved
loop-next-preserved c =
    let ahead = c.args.ahead.now in
    let rs = c.args.ranges.now in
    let n = c.loop-next.next in
    let i = get_or ahead n 0 in
    let yes : c.is_index_come_to.result ≡ true = search rules in
    record {
      way = λ t seen w.
          let now = c.loop-next.invariant.way t seen w in
          way_comes rs t ahead n i _ _ c.args.name.now c.loop-next-test.true (same_place ahead n 0 i c.loop-next-test.true) seen
          (λ d. sym (c.is_index_come_to.ensures d) ∙ yes) c.in-Ok.ensures.permutation (c.in-Ok.ensures.heap_order now.heap) now;
    }

pub returns-in-Err-clause-way : goal.returns-in-Err-clause-way
returns-in-Err-clause-way c = λ t seen w.
    subst (λ (ys : List ℕ). IsOnWay c.args.ranges.now t c.args.ahead.now c.loop-next.next ys c.args.name.now) (sym c.in-Err.ensures.unchanged.0) (c.loop-next.invariant.way t seen w)
