use Rattle.std.proofs.Common.{◌≡◌, true, false, subst}
use Rattle.std.specs.Prelude.{◌↔◌, IfOk, OnOk}
use Rattle.messages.specs.Topology.{node_count}
use Rattle.world.specs.Quiet.{IsQuiet}
use Rattle.threaded.specs.Concluded.{InEachRun, ConcludedValue}
use Rattle.threaded.specs.Matching.{AreKept}
use Rattle.threaded.specs.Quiet.{AreAllReceived, AreOfQuietRun, AreAllServed}
use Rattle.threaded.proofs.Counting.{links_told, quiet_told, other_told}
use Rattle.threaded.proofs.concluded.Concluded.is_quiet.Goals as goal

pub returns-clause-links : goal.returns-clause-links
returns-clause-links c =
    let s = c.self.inside in
    let r = c.are_served.result in
    let kept = subst (λ l. OnOk r (AreKept (node_count s.topology) l)) c.as_slice.ensures.value c.are_served.ensures.kept in
    let told = subst (λ l. IfOk r (λ all. (all ≡ true) ↔ AreAllServed (node_count s.topology) l)) c.as_slice.ensures.value c.are_served.ensures.ok in
    subst (λ (v : ConcludedValue). IfOk r (λ quiet. (quiet ≡ true) ↔ AreAllReceived v.top v.seats)) c.self.view_is
    (links_told s.topology s.seats.items c.self.invariant r kept told)

pub returns-clause-quiet : goal.returns-clause-quiet
returns-clause-quiet c =
    let s = c.self.inside in
    let r = c.are_served.result in
    let kept = subst (λ l. OnOk r (AreKept (node_count s.topology) l)) c.as_slice.ensures.value c.are_served.ensures.kept in
    let told = subst (λ l. IfOk r (λ all. (all ≡ true) ↔ AreAllServed (node_count s.topology) l)) c.as_slice.ensures.value c.are_served.ensures.ok in
    subst (λ (v : ConcludedValue). IfOk r (λ quiet. quiet ≡ true → AreOfQuietRun v.top v.seats)) c.self.view_is
    (quiet_told s.topology s.seats.items c.self.invariant r kept told)

pub returns-clause-other : goal.returns-clause-other
returns-clause-other c =
    let s = c.self.inside in
    let r = c.are_served.result in
    let kept = subst (λ l. OnOk r (AreKept (node_count s.topology) l)) c.as_slice.ensures.value c.are_served.ensures.kept in
    let told = subst (λ l. IfOk r (λ all. (all ≡ true) ↔ AreAllServed (node_count s.topology) l)) c.as_slice.ensures.value c.are_served.ensures.ok in
    subst (λ (v : ConcludedValue). IfOk r (λ quiet. quiet ≡ false → InEachRun v.top v.seats (λ w. IsQuiet w → ⊥))) c.self.view_is
    (other_told s.topology s.seats.items c.self.invariant r kept told)
