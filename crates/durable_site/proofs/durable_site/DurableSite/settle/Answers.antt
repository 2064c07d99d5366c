use Rattle.std.proofs.Common.{Some, subst, rules}
use Rattle.site.specs.Steps.{steps}
use Rattle.durable_site.specs.Logged.{whose_of}
use Rattle.durable_site.specs.Settled.{SettlesLog, kept_by}
use Rattle.durable_site.specs.Kept.{DurableSiteValue, is_kept}
use Rattle.durable_site.proofs.Kept.{logged_before, settles_some}
use Rattle.durable_site.proofs.durable_site.DurableSite.settle.Goals as goal

pub returns-clause-settles : goal.returns-clause-settles
returns-clause-settles g c =
    let k = g.D.Disk in
    let old = c.self.inside in
    let l = c.in-Some.log in
    let new = c.settle.new.self in
    let whose = whose_of old.identity in
    let all = steps old.site.story in
    subst (λ (d : DurableSiteValue g.row.D.Denot). SettlesLog k.seen k.may_leave k.failed k.moment k.left_since (whose_of d.identity) (steps d.site.story) (is_kept d) c.settle.result (Some (kept_by new))) c.self.view_is
    (settles_some k.seen k.may_leave k.failed k.moment k.left_since old.log l new whose all c.settle.result (search rules)
    (c.settle.ensures.settles whose all (logged_before k.seen k.may_leave k.failed old.log l old.identity all (search rules) c.self.invariant)))
