use Rattle.std.proofs.Common.{◌≡◌, ◌∙◌, ◌≤◌, ℕ, List, Some, length, take, sym, ap, subst}
use Rattle.disk.specs.Disk.{Cut, Only, LeavesOnly}
use Rattle.records.specs.Records.{Entry, spelled, recovered, AllFit}
use Rattle.records.proofs.Firsts.{undamaged_cut}
use Rattle.keeper.specs.Log.{IsKept, IsAsBefore}
use Rattle.keeper.proofs.Moments.{if_some, from_some, weaker}
use Rattle.keeper.proofs.recovery.recover.Goals as goal

pub returns-in_err-cut-clause-any_moment : goal.returns-in_err-cut-clause-any_moment
returns-in_err-cut-clause-any_moment g c =
    if_some (g.D.Disk.seen c.args.disk.now) _ (λ s told.
    let P : List ℕ → Type 0 = IsAsBefore c.args.secret s in
    let r = from_some (g.D.Disk.seen c.args.disk.now) (λ (t : List ℕ). (c.args.bytes.now ≡ t) × Only t (g.D.Disk.may_leave c.args.disk.now)) s told c.requires in
    let cuts : (k : ℕ) → c.in_ok-records.end ≤ k → recovered c.args.secret 0 0 (take k s) ≡ recovered c.args.secret 0 0 s =
    subst (λ (t : List ℕ). (k : ℕ) → c.in_ok-records.end ≤ k → recovered c.args.secret 0 0 (take k t) ≡ recovered c.args.secret 0 0 t) r.0 c.in_ok-records.ensures.cut in
    weaker g.D.Disk.moment g.D.Disk.left_since c.args.disk.now c.cut.new.disk (Cut c.in_ok-records.end s) P
    (from_some (g.D.Disk.seen c.args.disk.now) (λ (t : List ℕ). LeavesOnly g.D.Disk.moment g.D.Disk.left_since c.args.disk.now c.cut.new.disk (Cut c.in_ok-records.end t)) s told c.cut.ensures.any_moment)
    (λ z k. subst P (sym k.2) (record { records = cuts k.0 k.1; undamaged = undamaged_cut c.args.secret k.0 s (cuts k.0 k.1) })))

pub returns-clause-kept : goal.returns-clause-kept
returns-clause-kept g c =
    if_some (g.D.Disk.seen c.args.disk.now) (λ s. IsKept g.D.Disk.seen g.D.Disk.may_leave c.cut.new.disk c.args.secret c.in_ok-records.end (recovered c.args.secret 0 0 s)) (λ s told.
    let same = (from_some (g.D.Disk.seen c.args.disk.now) (λ (t : List ℕ). (c.args.bytes.now ≡ t) × Only t (g.D.Disk.may_leave c.args.disk.now)) s told c.requires).0 in
    let es = recovered c.args.secret 0 0 s in
    let end = c.in_ok-records.end in
    let cut_is : take end s ≡ spelled c.args.secret 0 es = subst (λ (t : List ℕ). take end t ≡ spelled c.args.secret 0 (recovered c.args.secret 0 0 t)) same c.in_ok-records.ensures.spelled in
    record {
      file = from_some (g.D.Disk.seen c.args.disk.now) (λ (t : List ℕ). g.D.Disk.seen c.cut.new.disk ≡ Some (take end t)) s told c.in_ok-cut.ensures.seen ∙ ap Some cut_is;
      durable = subst (λ (t : List ℕ). Only t (g.D.Disk.may_leave c.cut.new.disk)) cut_is (from_some (g.D.Disk.seen c.args.disk.now) (λ (t : List ℕ). Only (take end t) (g.D.Disk.may_leave c.cut.new.disk)) s told c.in_ok-cut.ensures.durable);
      long = c.in_ok-records.ensures.end ∙ ap (λ (l : List Entry). length (spelled c.args.secret 0 l)) (c.in_ok-records.ensures.records ∙ ap (recovered c.args.secret 0 0) same);
      fit = subst (λ (t : List ℕ). AllFit (recovered c.args.secret 0 0 t)) same c.in_ok-records.ensures.fit;
    })

pub returns-clause-any_moment : goal.returns-clause-any_moment
returns-clause-any_moment g c =
    if_some (g.D.Disk.seen c.args.disk.now) _ (λ s told.
    let P : List ℕ → Type 0 = IsAsBefore c.args.secret s in
    let r = from_some (g.D.Disk.seen c.args.disk.now) (λ (t : List ℕ). (c.args.bytes.now ≡ t) × Only t (g.D.Disk.may_leave c.args.disk.now)) s told c.requires in
    let cuts : (k : ℕ) → c.in_ok-records.end ≤ k → recovered c.args.secret 0 0 (take k s) ≡ recovered c.args.secret 0 0 s =
    subst (λ (t : List ℕ). (k : ℕ) → c.in_ok-records.end ≤ k → recovered c.args.secret 0 0 (take k t) ≡ recovered c.args.secret 0 0 t) r.0 c.in_ok-records.ensures.cut in
    weaker g.D.Disk.moment g.D.Disk.left_since c.args.disk.now c.cut.new.disk (Cut c.in_ok-records.end s) P
    (from_some (g.D.Disk.seen c.args.disk.now) (λ (t : List ℕ). LeavesOnly g.D.Disk.moment g.D.Disk.left_since c.args.disk.now c.cut.new.disk (Cut c.in_ok-records.end t)) s told c.cut.ensures.any_moment)
    (λ z k. subst P (sym k.2) (record { records = cuts k.0 k.1; undamaged = undamaged_cut c.args.secret k.0 s (cuts k.0 k.1) })))
