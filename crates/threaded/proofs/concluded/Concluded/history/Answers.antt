use Rattle.std.proofs.Common.{arith, ◌≡◌, ◌<◌, ℕ, sym, subst, rules}
use Rattle.std.specs.Prelude.{IfOk}
use Rattle.threaded.proofs.Promised.{stamps, pasts, listed_ok, tells_ok, grows, causes}
use Rattle.messages.specs.Shard.{ShardState}
use Rattle.world.specs.Entries.{TellsDecided}
use Rattle.world.specs.Histories.{IsHistory}
use Rattle.world.specs.Promises.{HistoriesGrow, StampsFollowCauses}
use Rattle.threaded.specs.OneRun.{AreSeatsOf}
use Rattle.threaded.specs.Asking.{AreReplays, asked_of}
use Rattle.threaded.specs.Concluded.{InEachRun, InEachCut, ConcludedValue}
use Rattle.threaded.proofs.concluded.Concluded.history.Goals as goal

pub returns-clause-listed : goal.returns-clause-listed
returns-clause-listed c =
    let top = c.self.inside.topology in
    let seats = c.self.inside.seats.items in
    let r = c.history.result in
    let dc = c.args.dc in
    let lt : dc < top.dcs = subst (λ (v : ConcludedValue). dc < v.top.dcs) (sym c.self.view_is) c.requires in
    let same : c.as_slice.result.now ≡ seats = search rules in
    let asked = subst (λ l. (states : ℕ → ShardState) → AreSeatsOf top l → AreReplays top l states → IfOk r (λ h. h ≡ asked_of top states l dc)) same c.history.ensures.ok in
    subst (λ (v : ConcludedValue). IfOk r (λ h. InEachRun v.top v.seats (λ w. IsHistory v.top w dc h))) c.self.view_is (listed_ok top seats c.self.invariant dc r lt asked)

pub returns-clause-tells : goal.returns-clause-tells
returns-clause-tells c =
    let top = c.self.inside.topology in
    let seats = c.self.inside.seats.items in
    let r = c.history.result in
    let dc = c.args.dc in
    let lt : dc < top.dcs = subst (λ (v : ConcludedValue). dc < v.top.dcs) (sym c.self.view_is) c.requires in
    let same : c.as_slice.result.now ≡ seats = search rules in
    let asked = subst (λ l. (states : ℕ → ShardState) → AreSeatsOf top l → AreReplays top l states → IfOk r (λ h. h ≡ asked_of top states l dc)) same c.history.ensures.ok in
    subst (λ (v : ConcludedValue). IfOk r (λ h. InEachRun v.top v.seats (λ w. TellsDecided v.top w dc h))) c.self.view_is (tells_ok top seats c.self.invariant dc r lt asked)

pub returns-clause-causes : goal.returns-clause-causes
returns-clause-causes c =
    subst (λ (v : ConcludedValue). InEachRun v.top v.seats (StampsFollowCauses v.top)) c.self.view_is
    (causes c.self.inside.topology c.self.inside.seats.items c.self.invariant)

pub returns-clause-grows : goal.returns-clause-grows
returns-clause-grows c =
    subst (λ (v : ConcludedValue). InEachCut v.top v.seats (HistoriesGrow v.top)) c.self.view_is
    (grows c.self.inside.topology c.self.inside.seats.items c.self.invariant)

pub returns-clause-stamps : goal.returns-clause-stamps
returns-clause-stamps c = grind (arith, stamps)

pub returns-clause-pasts : goal.returns-clause-pasts
returns-clause-pasts c = grind (arith, pasts)
