use Rattle.std.proofs.Common.{◌∙◌, []}
use Rattle.durable_site.specs.declared.step_log.StepLog.{StepLog}
use Rattle.durable_site.specs.Logged.{IsLogged, whose_of}
use Rattle.durable_site.specs.Settled.{Settles, kept_by}
use Rattle.durable_site.proofs.Opened.{begun, begun_left, on_ok, only_faults}
use Rattle.durable_site.proofs.opening.begin.Given as given
use Rattle.durable_site.proofs.opening.begin.Goals as goal

-- the log once whose it is was noted
abbrev noted : (g : given.Over) (c : goal.After-settle g) → StepLog g.row.D.Denot
noted g c = record { log = c.note_whose.new.log; turned = c.args.log.now.turned }

-- says that
logged : (g : given.Over) (c : goal.After-settle g) → IsLogged g.D.Disk.seen g.D.Disk.may_leave (whose_of c.args.identity.now) (noted g c) []
logged g c = begun g.D.Disk.seen g.D.Disk.may_leave g.D.Disk.failed c.args.log.now.log (noted g c) c.args.identity.now c.requires.stands c.in_ok-note_whose.ensures.ok c.requires.turned

-- and settles
settles : (g : given.Over) (c : goal.After-settle g)
    → Settles g.D.Disk.seen g.D.Disk.may_leave g.D.Disk.failed g.D.Disk.moment g.D.Disk.left_since (whose_of c.args.identity.now) [] (kept_by (noted g c)) c.settle.result (kept_by c.settle.new.self)
settles g c = c.settle.ensures.settles (whose_of c.args.identity.now) [] (λ works. logged g c)

pub returns-clause-logged : goal.returns-clause-logged
returns-clause-logged g c = on_ok c.settle.result _ (λ ok. c.settle.ensures.logged (whose_of c.args.identity.now) [] (λ works. logged g c) ((settles g c).works ok))

pub returns-clause-settled : goal.returns-clause-settled
returns-clause-settled g c = on_ok c.settle.result _ (settles g c).settled

pub returns-clause-works : goal.returns-clause-works
returns-clause-works g c = on_ok c.settle.result _ (settles g c).works

pub returns-clause-secret : goal.returns-clause-secret
returns-clause-secret g c = (settles g c).lasts.0 ∙ c.note_whose.ensures.secret

pub returns-clause-any_moment : goal.returns-clause-any_moment
returns-clause-any_moment g c =
    let k = g.D.Disk in
    begun_left k.seen k.may_leave k.failed k.moment k.left_since (whose_of c.args.identity.now) c.args.log.now.log c.note_whose.new.log c.settle.result c.settle.new.self c.note_whose.ensures.disk c.note_whose.ensures.secret (settles g c)

pub returns-clause-only : goal.returns-clause-only
returns-clause-only g c = only_faults c.settle.result _ (settles g c).refused
