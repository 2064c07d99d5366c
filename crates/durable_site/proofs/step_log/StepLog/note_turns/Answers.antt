use Rattle.std.proofs.Common.{◌≡◌, refl, rules}
use Rattle.site_ledger.specs.declared.entry.Entry.TheVariants.{Turned}
use Rattle.site_ledger.specs.Entries.{IsTextOf, IsNumbered}
use Rattle.durable_site.proofs.Logs.{logged_turns, turns_told}
use Rattle.durable_site.proofs.step_log.StepLog.note_turns.Goals as goal

pub returns-in-Ok-clause-logged : goal.returns-in-Ok-clause-logged
returns-in-Ok-clause-logged g c = λ whose all.
    let e = Turned c.args.self.now.turned in
    let numbered : IsNumbered e = search rules in
    let told : IsTextOf e c.deref.result.now = search rules in
    logged_turns g.D.Disk.seen g.D.Disk.may_leave whose c.args.self.now (record { log = c.note.new.log; turned = 0 }) c.in-Ok.field-0 all refl (λ es n. c.in-Ok.ensures.ok es e n numbered told)

pub returns-in-Ok-clause-noted : goal.returns-in-Ok-clause-noted
returns-in-Ok-clause-noted g c = λ es n.
    let turned = c.args.self.now.turned in
    let e = Turned turned in
    let numbered : IsNumbered e = search rules in
    let told : IsTextOf e c.deref.result.now = search rules in
    let some : turned ≡ 0 → ⊥ = search rules in
    turns_told g.D.Disk.seen g.D.Disk.may_leave c.note.new.log c.in-Ok.field-0 es turned some (c.in-Ok.ensures.ok es e n numbered told)
