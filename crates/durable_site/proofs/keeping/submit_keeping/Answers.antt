use Rattle.std.proofs.Common.{◌≡◌, true, false, refl, sym, subst, rules}
use Rattle.messages.specs.declared.event.ActorEvent.TheVariants.{Submit}
use Rattle.site.specs.Sites.{SiteValue}
use Rattle.site.specs.Steps.{steps}
use Rattle.site_ledger.specs.declared.entry.Entry.TheVariants.{Asked}
use Rattle.durable_site.specs.Logged.{IsLogged}
use Rattle.durable_site.proofs.Calls.{done_steps, refused_stays, refused_broke}
use Rattle.durable_site.proofs.Logs.{logged_more, logged_back, logged_still}
use Rattle.durable_site.proofs.keeping.submit_keeping.Goals as goal

pub returns-in_err-mark-clause-logged : goal.returns-in_err-mark-clause-logged
returns-in_err-mark-clause-logged g c = λ whose l.
    let mid = c.note_turns.new.self in
    logged_still g.D.Disk.seen g.D.Disk.may_leave whose mid (record { log = c.note_asked.new.log; turned = mid.turned }) (steps c.args.site.now.story) refl c.in_err-mark.ensures.err (c.note_turns.ensures.logged whose (steps c.args.site.now.story) l)

pub returns-in-Ok-clause-logged : goal.returns-in-Ok-clause-logged
returns-in-Ok-clause-logged g c = λ whose l.
    let old = c.args.site.now in
    let new = c.submit.new.self in
    let mid = c.note_turns.new.self in
    let none = c.in_ok-note_turns.ensures.none in
    logged_more g.D.Disk.seen g.D.Disk.may_leave whose mid (record { log = c.note_asked.new.log; turned = mid.turned }) c.in_ok-mark.mark (steps old.story) (steps new.story) (Asked c.args.node c.args.op) none none (done_steps old new c.args.node (Submit c.args.op) c.in-Ok.submitted.ended c.in-Ok.ensures.submitted.0)
    c.in_ok-mark.ensures.ok (c.note_turns.ensures.logged whose (steps old.story) l)

pub returns-in-Err-clause-logged : goal.returns-in-Err-clause-logged
returns-in-Err-clause-logged g c = λ whose l.
    let old = c.args.site.now in
    let new = c.submit.new.self in
    let mid = c.note_turns.new.self in
    let none = c.in_ok-note_turns.ensures.none in
    let sound : new.sound ≡ true = search rules in
    subst (λ (s : SiteValue). IsLogged g.D.Disk.seen g.D.Disk.may_leave whose (record { log = c.take_back.new.log; turned = mid.turned }) (steps s.story)) (sym (refused_stays g.M.Machine.refuses old new c.in-Err.fault c.args.node (Submit c.args.op) c.in-Err.ensures.refused sound))
    (logged_back g.D.Disk.seen g.D.Disk.may_leave whose mid (record { log = c.note_asked.new.log; turned = mid.turned }) (record { log = c.take_back.new.log; turned = mid.turned }) c.in_ok-mark.mark (steps old.story) (Asked c.args.node c.args.op) none none c.in_ok-mark.ensures.ok
    c.take_back.ensures.back (c.note_turns.ensures.logged whose (steps old.story) l))

pub returns-in-Err-2-clause-logged : goal.returns-in-Err-2-clause-logged
returns-in-Err-2-clause-logged g c = λ whose l.
    let old = c.args.site.now in
    let new = c.submit.new.self in
    let mid = c.note_turns.new.self in
    let none = c.in_ok-note_turns.ensures.none in
    let was : old.sound ≡ true = search rules in
    let broke : new.sound ≡ false = search rules in
    logged_more g.D.Disk.seen g.D.Disk.may_leave whose mid (record { log = c.note_asked.new.log; turned = mid.turned }) c.in_ok-mark.mark (steps old.story) (steps new.story) (Asked c.args.node c.args.op) none none
    (refused_broke g.M.Machine.refuses old new c.in-Err-2.fault c.args.node (Submit c.args.op) c.in-Err-2.ensures.refused was broke) c.in_ok-mark.ensures.ok (c.note_turns.ensures.logged whose (steps old.story) l)
