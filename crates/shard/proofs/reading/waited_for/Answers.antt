use Rattle.std.proofs.Common.{rules, ◌≡◌, sym, false, nat_lt}
use Rattle.shard.proofs.reading.waited_for.Goals as goal

pub returns-clause-ok : goal.returns-clause-ok
returns-clause-ok c = λ top me a r.
    let low = r.low in
    let not_below : nat_lt c.args.time a.low ≡ false = search rules in
    rw (not_below, sym c.get.ensures) (c.writers_below.ensures.ok top me a r)
