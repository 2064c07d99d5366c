use Rattle.std.proofs.Common.{◌≡◌, true, false, Ok, Err, refl, subst}
use Rattle.logical_time.specs.declared.fault.Fault.TheVariants.{WriteFailed}
use Rattle.durable.specs.Settled.{DurableValue, Settles}
use Rattle.durable.proofs.Settled.{not_true, only_noted, lasts_committed, settled_committed, lasts_refused}
use Rattle.durable.proofs.durable.DurableHost.settle.Goals as goal

err_ok : {T E : Type 0} {x : T} {e : E} → Err e ≡ Ok x → ⊥
err_ok h = cc

false_true : false ≡ true → ⊥
false_true h = cc

pub returns-clause-settled : goal.returns-clause-settled
returns-clause-settled g c =
    let k = g.D.Disk in
    let m = g.met.D.Disk in
    let w = c.self.inside.world in
    let old = c.self.inside.log in
    let new = c.commit.new.self in
    let e = c.in-Ok.ensures in
    let here : DurableValue g.row.D.Denot = record { world = w; log = new; found = c.self.inside.found } in
    let works : k.failed old.disk ≡ false = not_true (k.failed old.disk) (λ dead. false_true (e.stays_failed dead).0) in
    subst (λ (d : DurableValue g.row.D.Denot). Settles k.seen k.may_leave k.failed k.moment k.left_since d (Ok tt) here) c.self.view_is
    (record {
      same = refl;
      lasts = lasts_committed k.seen k.may_leave k.failed k.moment k.left_since m.only_now m.counts_now old new e.secret w.top w.events c.self.invariant e.any_moment works e.settled;
      only = only_noted k.seen k.may_leave k.failed k.moment k.left_since m.only_now m.counts_now old new e.secret w.top w.events c.self.invariant e.any_moment;
      settled = λ ok. settled_committed k.seen k.may_leave k.failed k.moment k.left_since m.only_now m.counts_now old new e.secret w.top w.events c.self.invariant e.any_moment works e.settled;
      works = λ ok. e.works;
      dead = λ dead. absurd (false_true (e.stays_failed dead).0);
      refused = tt;
    })

pub returns-in-Err-clause-settled : goal.returns-in-Err-clause-settled
returns-in-Err-clause-settled g c =
    let k = g.D.Disk in
    let m = g.met.D.Disk in
    let w = c.self.inside.world in
    let old = c.self.inside.log in
    let new = c.commit.new.self in
    let e = c.in-Err.ensures in
    let here : DurableValue g.row.D.Denot = record { world = w; log = new; found = c.self.inside.found } in
    subst (λ (d : DurableValue g.row.D.Denot). Settles k.seen k.may_leave k.failed k.moment k.left_since d (Err WriteFailed) here) c.self.view_is
    (record {
      same = refl;
      lasts = lasts_refused k.seen k.may_leave k.failed k.moment k.left_since m.only_now m.counts_now old new e.secret w.top w.events c.self.invariant e.any_moment (λ dead. (e.stays_failed dead).1) e.refused;
      only = only_noted k.seen k.may_leave k.failed k.moment k.left_since m.only_now m.counts_now old new e.secret w.top w.events c.self.invariant e.any_moment;
      settled = λ ok. absurd (err_ok ok);
      works = λ ok. absurd (err_ok ok);
      dead = λ dead. (refl, (e.stays_failed dead).1);
      refused = refl;
    })
