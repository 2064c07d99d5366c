use Rattle.std.proofs.Common.{◌∙◌, rules}
use Rattle.ledger.proofs.Reading.{families_on, families_end}
use Rattle.ledger.proofs.head.families_of.Goals as goal

pub loop-rest-preserved : goal.loop-rest-preserved
loop-rest-preserved c = λ names all is.
    families_on c.loop-rest.families.items c.push.new.self.items names c.loop-rest.rest.now c.in_ok-from_slice.field-0 c.split_at.result.1.now c.number.result c.min-length.result (c.loop-rest.invariant names all is)
    c.in-len2-up.len_at_least c.in_ok-push.ensures.items c.number.ensures (search rules) (c.in_ok-from_slice.ensures ∙ c.split_at.ensures.front) c.split_at.ensures.back

pub returns : goal.returns
returns c = λ names all is. families_end c.loop-rest.families.items c.loop-rest.rest.now names (c.loop-rest.invariant names all is) c.in_default.len_below
