use Rattle.std.proofs.Common.{◌≡◌, true, subst}
use Rattle.std.specs.Prelude.{◌↔◌}
use Rattle.threaded.specs.Matching.{AreKept, AreAllTimed}
use Rattle.threaded.proofs.Whole.{concluded_if, unmatched_time, unmatched_link}
use Rattle.threaded.proofs.concluding.do_fit.Goals as goal

pub returns-then-not-are_timed-clause-apart : goal.returns-then-not-are_timed-clause-apart
returns-then-not-are_timed-clause-apart c = λ off.
    let seats = c.args.seats.now in
    let kept = subst (λ n. AreKept n seats) c.requires.places.len c.are_timed.ensures.kept in
    let told = subst (λ n. (c.are_timed.result ≡ true) ↔ AreAllTimed n seats) c.requires.places.len c.are_timed.ensures.timed in
    unmatched_time c.args.topology.now seats c.requires.seats kept c.are_timed.result told c.if-not-are_timed.true

pub returns-clause-fit : goal.returns-clause-fit
returns-clause-fit c = λ on.
    let seats = c.args.seats.now in
    let kept = subst (λ n. AreKept n seats) c.requires.places.len c.are_timed.ensures.kept in
    let told = subst (λ n. (c.are_timed.result ≡ true) ↔ AreAllTimed n seats) c.requires.places.len c.are_timed.ensures.timed in
    concluded_if c.args.topology.now seats c.requires.seats kept c.are_timed.result c.in_ok-all.all told c.in_ok-all.ensures.ok c.if-not-are_timed.false on

pub returns-clause-apart : goal.returns-clause-apart
returns-clause-apart c = λ off.
    let seats = c.args.seats.now in
    let kept = subst (λ n. AreKept n seats) c.requires.places.len c.are_timed.ensures.kept in
    unmatched_link c.args.topology.now seats c.requires.seats kept c.in_ok-all.all c.in_ok-all.ensures.ok off
