use Rattle.std.proofs.Common.{refl, sym, subst}
use Rattle.site.specs.Sites.{SiteValue}
use Rattle.site.specs.Steps.{steps}
use Rattle.site_ledger.specs.declared.entry.Entry.TheVariants.{Came}
use Rattle.durable_site.specs.Logged.{IsLogged}
use Rattle.durable_site.proofs.Calls.{came_steps}
use Rattle.durable_site.proofs.Logs.{logged_more, logged_back, logged_still}
use Rattle.durable_site.proofs.keeping.hear_keeping.Goals as goal

pub returns-in-Err-note_came-clause-logged : goal.returns-in-Err-note_came-clause-logged
returns-in-Err-note_came-clause-logged g c = λ whose l.
    let mid = c.note_turns.new.self in
    logged_still g.D.Disk.seen g.D.Disk.may_leave whose mid (record { log = c.note_came.new.log; turned = mid.turned }) (steps c.args.site.now.story) refl c.in-Err-note_came.ensures.err (c.note_turns.ensures.logged whose (steps c.args.site.now.story) l)

pub returns-in-Ok-hear-clause-logged : goal.returns-in-Ok-hear-clause-logged
returns-in-Ok-hear-clause-logged g c = λ whose l.
    let old = c.args.site.now in
    let new = c.hear.new.self in
    let mid = c.note_turns.new.self in
    let none = c.in_default.ensures.none in
    logged_more g.D.Disk.seen g.D.Disk.may_leave whose mid (record { log = c.note_came.new.log; turned = mid.turned }) c.in-Ok.mark (steps old.story) (steps new.story) (Came c.args.from c.args.envelope) none none (came_steps old new c.args.from c.args.envelope c.in-Ok-hear.ensures.heard)
    c.in-Ok.ensures.ok (c.note_turns.ensures.logged whose (steps old.story) l)

pub returns-in-Err-hear-clause-logged : goal.returns-in-Err-hear-clause-logged
returns-in-Err-hear-clause-logged g c = λ whose l.
    let old = c.args.site.now in
    let mid = c.note_turns.new.self in
    let none = c.in_default.ensures.none in
    subst (λ (s : SiteValue). IsLogged g.D.Disk.seen g.D.Disk.may_leave whose (record { log = c.take_back.new.log; turned = mid.turned }) (steps s.story)) (sym c.in-Err-hear.ensures.same)
    (logged_back g.D.Disk.seen g.D.Disk.may_leave whose mid (record { log = c.note_came.new.log; turned = mid.turned }) (record { log = c.take_back.new.log; turned = mid.turned }) c.in-Ok.mark (steps old.story) (Came c.args.from c.args.envelope) none none c.in-Ok.ensures.ok
    c.take_back.ensures.back (c.note_turns.ensures.logged whose (steps old.story) l))
