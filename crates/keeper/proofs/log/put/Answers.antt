use Rattle.std.proofs.Common.{◌≡◌, ◌∙◌, ℕ, List, Some, ◌++◌, ap, subst}
use Rattle.std.specs.Prelude.{option_map}
use Rattle.disk.specs.Disk.{IsBeginning, Only}
use Rattle.keeper.proofs.Moments.{if_some, from_some, map_ok, either, appended, synced}
use Rattle.keeper.proofs.log.put.Goals as goal

pub returns-in_err-append-clause-any_moment : goal.returns-in_err-append-clause-any_moment
returns-in_err-append-clause-any_moment g c =
    if_some (g.D.Disk.seen c.args.disk.now) _ (λ s told only.
    appended g.D.Disk.moment g.D.Disk.left_since g.D.Disk.may_leave c.args.disk.now c.append.new.self s (g.met.D.Disk.only_now c.args.disk.now) only c.append.ensures.crash c.append.ensures.time)

pub returns-clause-any_moment : goal.returns-clause-any_moment
returns-clause-any_moment g c =
    if_some (g.D.Disk.seen c.args.disk.now) _ (λ s told only.
    let b = c.args.bytes.now.items in
    let written : g.D.Disk.seen c.append.new.self ≡ Some (s ++ b) = c.in_ok-append.ensures.written ∙ ap (option_map (λ (t : List ℕ). t ++ b)) told in
    let was : (z : List ℕ) → g.D.Disk.may_leave c.append.new.self z → IsBeginning s z = λ z left. let d = c.append.ensures.crash z left in subst (λ (t : List ℕ). IsBeginning t z) (only d.0 d.1) d.2 in
    synced g.D.Disk.moment g.D.Disk.left_since g.D.Disk.may_leave c.args.disk.now c.append.new.self c.sync.new.self s b
    (appended g.D.Disk.moment g.D.Disk.left_since g.D.Disk.may_leave c.args.disk.now c.append.new.self s (g.met.D.Disk.only_now c.args.disk.now) only c.append.ensures.crash c.append.ensures.time)
    was
    (either c.sync.result (Only (s ++ b) (g.D.Disk.may_leave c.sync.new.self)) ((z : List ℕ) → g.D.Disk.may_leave c.sync.new.self z → g.D.Disk.may_leave c.append.new.self z)
    (map_ok c.sync.result _ (Only (s ++ b) (g.D.Disk.may_leave c.sync.new.self)) c.sync.ensures.durable (from_some (g.D.Disk.seen c.append.new.self) (λ (t : List ℕ). Only t (g.D.Disk.may_leave c.sync.new.self)) (s ++ b) written)) c.sync.ensures.crash)
    c.sync.ensures.time)
