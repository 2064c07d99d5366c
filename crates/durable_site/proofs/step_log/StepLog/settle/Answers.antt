use Rattle.std.proofs.Common.{◌≡◌, true, false, refl, inl, inr, rules}
use Rattle.durable_site.proofs.Settled.{not_true}
use Rattle.durable_site.proofs.Settling.{unnoted, settles_well, settles_badly}
use Rattle.durable_site.proofs.step_log.StepLog.settle.Goals as goal

false_true : false ≡ true → ⊥
false_true h = cc

pub returns-in_err-note_turns-clause-settles : goal.returns-in_err-note_turns-clause-settles
returns-in_err-note_turns-clause-settles g c = λ whose all logged.
    let k = g.D.Disk in
    let m = g.met.D.Disk in
    let n = c.note_turns.ensures in
    unnoted k.seen k.may_leave k.failed k.moment k.left_since m.only_now m.counts_now whose all c.args.self.now c.note_turns.new.self c.from_residual.result c.in_err-note_turns.field-0.0 (search rules) c.in_err-note_turns.ensures.memory n.disk n.secret logged

pub returns-in-Ok-clause-settles : goal.returns-in-Ok-clause-settles
returns-in-Ok-clause-settles g c = λ whose all logged.
    let k = g.D.Disk in
    let m = g.met.D.Disk in
    let n = c.note_turns.ensures in
    let mid = c.note_turns.new.self in
    let e = c.in-Ok.ensures in
    let works : k.failed mid.log.disk ≡ false = not_true (k.failed mid.log.disk) (λ dead. false_true (e.stays_failed dead).0) in
    settles_well k.seen k.may_leave k.failed k.moment k.left_since m.only_now m.counts_now whose all c.args.self.now mid c.commit.new.self c.in_ok-note_turns.ensures.none n.disk n.secret e.secret (n.logged whose all) logged e.any_moment works e.settled e.works

pub returns-in-Err-Failed-clause-settles : goal.returns-in-Err-Failed-clause-settles
returns-in-Err-Failed-clause-settles g c = λ whose all logged.
    let k = g.D.Disk in
    let m = g.met.D.Disk in
    let n = c.note_turns.ensures in
    let mid = c.note_turns.new.self in
    let e = c.in-Err-Failed.ensures in
    let fails : k.failed c.commit.new.self.disk ≡ true = e.fails c.in-Err-Failed.field-0-is in
    settles_badly k.seen k.may_leave k.failed k.moment k.left_since m.only_now m.counts_now whose all c.args.self.now mid c.commit.new.self c.in_ok-note_turns.ensures.none n.disk n.secret e.secret (n.logged whose all) logged e.any_moment _ (inl (refl, fails))
    (λ dead. (e.stays_failed dead).1) e.refused

pub returns-in-Err-Memory-clause-settles : goal.returns-in-Err-Memory-clause-settles
returns-in-Err-Memory-clause-settles g c = λ whose all logged.
    let k = g.D.Disk in
    let m = g.met.D.Disk in
    let n = c.note_turns.ensures in
    let mid = c.note_turns.new.self in
    let e = c.in-Err-Memory.ensures in
    settles_badly k.seen k.may_leave k.failed k.moment k.left_since m.only_now m.counts_now whose all c.args.self.now mid c.commit.new.self c.in_ok-note_turns.ensures.none n.disk n.secret e.secret (n.logged whose all) logged e.any_moment _ (inr refl)
    (λ dead. (e.stays_failed dead).1) e.refused
