use Rattle.std.proofs.Common.{◌≡◌, ◌∙◌, inl, inr, ℕ, List, Some, take, ap}
use Rattle.std.specs.Prelude.{option_map}
use Rattle.disk.specs.Disk.{Only}
use Rattle.keeper.proofs.Moments.{if_some, from_some, cut_off, cut_synced, cut_was}
use Rattle.keeper.proofs.recovery.cut.Goals as goal

pub returns-in_err-cut-clause-any_moment : goal.returns-in_err-cut-clause-any_moment
returns-in_err-cut-clause-any_moment g c =
    if_some (g.D.Disk.seen c.args.disk.now) _ (λ s told.
    let r = from_some (g.D.Disk.seen c.args.disk.now) _ s told c.requires in
    cut_off g.D.Disk.moment g.D.Disk.left_since g.D.Disk.may_leave c.args.end s c.args.disk.now c.cut.new.self (g.met.D.Disk.only_now c.args.disk.now) r.1 c.cut.ensures.crash c.cut.ensures.time)

pub returns-in_err-sync-clause-any_moment : goal.returns-in_err-sync-clause-any_moment
returns-in_err-sync-clause-any_moment g c =
    if_some (g.D.Disk.seen c.args.disk.now) _ (λ s told.
    let r = from_some (g.D.Disk.seen c.args.disk.now) _ s told c.requires in
    cut_synced g.D.Disk.moment g.D.Disk.left_since g.D.Disk.may_leave c.args.end s c.args.disk.now c.cut.new.self c.sync.new.self
    (cut_off g.D.Disk.moment g.D.Disk.left_since g.D.Disk.may_leave c.args.end s c.args.disk.now c.cut.new.self (g.met.D.Disk.only_now c.args.disk.now) r.1 c.cut.ensures.crash c.cut.ensures.time)
    (cut_was g.D.Disk.moment g.D.Disk.left_since g.D.Disk.may_leave c.args.end s c.args.disk.now c.cut.new.self r.1 c.cut.ensures.crash)
    (inr c.in_err-sync.ensures.crash) c.sync.ensures.time)

pub returns-in_ok-sync-clause-any_moment : goal.returns-in_ok-sync-clause-any_moment
returns-in_ok-sync-clause-any_moment g c =
    if_some (g.D.Disk.seen c.args.disk.now) _ (λ s told.
    let r = from_some (g.D.Disk.seen c.args.disk.now) _ s told c.requires in
    let there : g.D.Disk.seen c.cut.new.self ≡ Some (take c.args.end s) = c.in_ok-cut.ensures.cut ∙ ap (option_map (λ (t : List ℕ). take c.args.end t)) told in
    cut_synced g.D.Disk.moment g.D.Disk.left_since g.D.Disk.may_leave c.args.end s c.args.disk.now c.cut.new.self c.sync.new.self
    (cut_off g.D.Disk.moment g.D.Disk.left_since g.D.Disk.may_leave c.args.end s c.args.disk.now c.cut.new.self (g.met.D.Disk.only_now c.args.disk.now) r.1 c.cut.ensures.crash c.cut.ensures.time)
    (cut_was g.D.Disk.moment g.D.Disk.left_since g.D.Disk.may_leave c.args.end s c.args.disk.now c.cut.new.self r.1 c.cut.ensures.crash)
    (inl (from_some (g.D.Disk.seen c.cut.new.self) (λ (t : List ℕ). Only t (g.D.Disk.may_leave c.sync.new.self)) (take c.args.end s) there c.in_ok-sync.ensures.durable)) c.sync.ensures.time)
