use Rattle.ledger.proofs.Reading.{homes_on, homes_end}
use Rattle.ledger.proofs.head.homes_of.Goals as goal

pub loop-rest-preserved : goal.loop-rest-preserved
loop-rest-preserved c = λ homes all is.
    homes_on c.loop-rest.homes.items c.push.new.self.items c.loop-rest.rest.now homes c.number.result (c.loop-rest.invariant homes all is) c.in-len2-up.len_at_least c.in_ok-push.ensures.items c.number.ensures

pub returns : goal.returns
returns c = λ homes all is. homes_end c.loop-rest.homes.items c.loop-rest.rest.now homes (c.loop-rest.invariant homes all is) c.in_default.len_below
