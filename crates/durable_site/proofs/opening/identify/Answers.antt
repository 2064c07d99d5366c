use Rattle.durable_site.proofs.Opened.{first_told, found_logged, found_settled}
use Rattle.durable_site.proofs.opening.identify.Goals as goal

pub returns-in-Ok-clause-logged : goal.returns-in-Ok-clause-logged
returns-in-Ok-clause-logged g c =
    let k = g.D.Disk in
    let s = c.requires.stands in
    let told = first_told k.seen k.may_leave k.failed c.in-Ok.identity c.args.entries.now c.in-Some.first.now c.in-Some.ensures.value c.in-Ok.ensures.own.0 in
    found_logged k.seen k.may_leave k.failed c.args.log.now c.in-Ok.identity s.0 c.args.entries.now c.requires.turned s.1 s.2 told

pub returns-in-Ok-clause-settled : goal.returns-in-Ok-clause-settled
returns-in-Ok-clause-settled g c =
    let k = g.D.Disk in
    let s = c.requires.stands in
    let told = first_told k.seen k.may_leave k.failed c.in-Ok.identity c.args.entries.now c.in-Some.first.now c.in-Some.ensures.value c.in-Ok.ensures.own.0 in
    found_settled k.seen k.may_leave k.failed c.args.log.now c.in-Ok.identity s.0 c.args.entries.now s.1 s.2 told
