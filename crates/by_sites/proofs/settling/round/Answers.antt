use Rattle.std.proofs.Common.{rules, ◌∙◌, ◌≤◌, length, refl, sym, arith}
use Rattle.actors.proofs.Lists.{either_false}
use Rattle.by_sites.proofs.Keeping.{rest_more}
use Rattle.by_sites.proofs.settling.round.Goals as goal

pub loop-place-init : goal.loop-place-init
loop-place-init c = record { count = refl; on = λ events holds. holds; rest = λ no k below. absurd (omega (arith, below)) }

pub loop-place-preserved : goal.loop-place-preserved
loop-place-preserved c =
    let inv = c.loop-place.invariant in
    record {
      count = c.in_ok-more.ensures.count ∙ inv.count;
      on = λ events holds. c.in_ok-more.ensures.on events (inv.on events holds);
      rest = λ none.
          let both = either_false c.loop-place.any c.in_ok-more.more (sym c.either-any.ensures ∙ none) in
          let still = c.in_ok-more.ensures.rest both.1 in
          rest_more c.loop-place.sites c.step.new.sites c.loop-place.place still.0 (inv.rest both.0) still.1;
    }

pub returns-clause-on : goal.returns-clause-on
returns-clause-on c = λ events holds. c.loop-place.invariant.on events holds

pub returns-clause-rest : goal.returns-clause-rest
returns-clause-rest c = λ none k below.
    let count = c.loop-place.invariant.count in
    let past : length c.args.sites.now ≤ c.loop-place.place = search rules in
    c.loop-place.invariant.rest none k (omega (arith, below, count, past))
