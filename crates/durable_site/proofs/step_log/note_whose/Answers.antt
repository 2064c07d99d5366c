use Rattle.std.proofs.Common.{[], rules}
use Rattle.site_ledger.specs.Entries.{IsTextOf, IsNumbered}
use Rattle.durable_site.specs.Logged.{whose_of}
use Rattle.durable_site.proofs.Logs.{notes_too}
use Rattle.durable_site.proofs.step_log.note_whose.Goals as goal

pub returns-in-Ok-clause-ok : goal.returns-in-Ok-clause-ok
returns-in-Ok-clause-ok g c = λ n.
    let e = whose_of c.args.identity.now in
    let numbered : IsNumbered e = search rules in
    let told : IsTextOf e c.deref.result.now = search rules in
    notes_too g.D.Disk.seen g.D.Disk.may_leave c.note.new.log c.in-Ok.field-0 [] e (c.in-Ok.ensures.ok [] e n numbered told)
