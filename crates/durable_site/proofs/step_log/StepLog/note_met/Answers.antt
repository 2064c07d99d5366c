use Rattle.std.proofs.Common.{◌++◌, refl, sym, append-nil, rules}
use Rattle.site_ledger.specs.declared.entry.Entry.TheVariants.{Met}
use Rattle.site_ledger.specs.Entries.{IsTextOf, IsNumbered}
use Rattle.durable_site.specs.Logged.{turns_noted}
use Rattle.durable_site.proofs.Logs.{logged_more, logged_still, notes_behind}
use Rattle.durable_site.proofs.step_log.StepLog.note_met.Goals as goal

pub returns-in-Ok-clause-logged : goal.returns-in-Ok-clause-logged
returns-in-Ok-clause-logged g c = λ whose all l.
    let mid = c.note_turns.new.self in
    let e = Met c.args.dc c.args.incarnation.now in
    let numbered : IsNumbered e = search rules in
    let told : IsTextOf e c.deref.result.now = search rules in
    let none = c.in_ok-note_turns.ensures.none in
    logged_more g.D.Disk.seen g.D.Disk.may_leave whose mid (record { log = c.note.new.log; turned = mid.turned }) c.in-Ok.field-0 all all e none none (sym (append-nil all)) (λ es n. c.in-Ok.ensures.ok es e n numbered told)
    (c.note_turns.ensures.logged whose all l)

pub returns-in-Ok-clause-noted : goal.returns-in-Ok-clause-noted
returns-in-Ok-clause-noted g c = λ es n.
    let turns = turns_noted c.args.self.now.turned in
    let e = Met c.args.dc c.args.incarnation.now in
    let numbered : IsNumbered e = search rules in
    let told : IsTextOf e c.deref.result.now = search rules in
    notes_behind g.D.Disk.seen g.D.Disk.may_leave c.note.new.log c.in-Ok.field-0 es turns e (c.in-Ok.ensures.ok (es ++ turns) e (c.in_ok-note_turns.ensures.noted es n) numbered told)

pub returns-clause-logged : goal.returns-clause-logged
returns-clause-logged g c = λ whose all l.
    let mid = c.note_turns.new.self in
    logged_still g.D.Disk.seen g.D.Disk.may_leave whose mid (record { log = c.note.new.log; turned = mid.turned }) all refl c.in-Err.ensures.err (c.note_turns.ensures.logged whose all l)
