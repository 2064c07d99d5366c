use Rattle.std.proofs.Common.{Some, OnOk, subst, rules}
use Rattle.site_ledger.specs.declared.entry.Entry.TheVariants.{Met}
use Rattle.durable_site.specs.Kept.{DurableSiteValue}
use Rattle.durable_site.specs.Logged.{NotesToo}
use Rattle.durable_site.proofs.Kept.{noted_some}
use Rattle.durable_site.proofs.durable_site.DurableSite.note_met.Goals as goal

pub returns-clause-noted : goal.returns-clause-noted
returns-clause-noted g c =
    let k = g.D.Disk in
    let e = Met c.args.dc c.args.incarnation.now in
    let new = c.note_met.new.self in
    subst (λ (d : DurableSiteValue g.row.D.Denot). OnOk c.note_met.result (NotesToo k.seen k.may_leave d.log e (Some new))) c.self.view_is
    (noted_some k.seen k.may_leave c.self.inside.log c.in-Some.log new e c.note_met.result (search rules) c.note_met.ensures.noted)
