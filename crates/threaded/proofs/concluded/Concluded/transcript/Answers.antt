use Rattle.std.proofs.Common.{arith, subst}
use Rattle.threaded.proofs.Whole.{are_told}
use Rattle.threaded.proofs.Promised.{fresh, given_up, entries, outcomes, once, told, one_table, stays, past, arrived, whole, above, times, homes}
use Rattle.world.specs.Fresh.{FirstRoundsAreWhole}
use Rattle.world.specs.Promises.{AnswersStay, LaterCommitsAreAbove, ReadsShowOneTable, ReadsShowTheirPast, MovesBringTheirPast, TimesNeverFall, HomesAreOfMoves}
use Rattle.threaded.specs.Concluded.{InEachRun, InEachCut, ConcludedValue}
use Rattle.threaded.proofs.concluded.Concluded.transcript.Goals as goal

pub returns-clause-one_table : goal.returns-clause-one_table
returns-clause-one_table c =
    subst (λ (v : ConcludedValue). InEachRun v.top v.seats (ReadsShowOneTable v.top)) c.self.view_is
    (one_table c.self.inside.topology c.self.inside.seats.items c.self.invariant)

pub returns-clause-past : goal.returns-clause-past
returns-clause-past c =
    subst (λ (v : ConcludedValue). InEachRun v.top v.seats (ReadsShowTheirPast v.top)) c.self.view_is
    (past c.self.inside.topology c.self.inside.seats.items c.self.invariant)

pub returns-clause-arrived : goal.returns-clause-arrived
returns-clause-arrived c =
    subst (λ (v : ConcludedValue). InEachRun v.top v.seats (MovesBringTheirPast v.top)) c.self.view_is
    (arrived c.self.inside.topology c.self.inside.seats.items c.self.invariant)

pub returns-clause-whole : goal.returns-clause-whole
returns-clause-whole c =
    subst (λ (v : ConcludedValue). InEachRun v.top v.seats (FirstRoundsAreWhole v.top)) c.self.view_is
    (whole c.self.inside.topology c.self.inside.seats.items c.self.invariant)

pub returns-clause-times : goal.returns-clause-times
returns-clause-times c =
    subst (λ (v : ConcludedValue). InEachRun v.top v.seats TimesNeverFall) c.self.view_is
    (times c.self.inside.topology c.self.inside.seats.items c.self.invariant)

pub returns-clause-homes : goal.returns-clause-homes
returns-clause-homes c =
    subst (λ (v : ConcludedValue). InEachRun v.top v.seats (HomesAreOfMoves v.top)) c.self.view_is
    (homes c.self.inside.topology c.self.inside.seats.items c.self.invariant)

pub returns-clause-stays : goal.returns-clause-stays
returns-clause-stays c =
    subst (λ (v : ConcludedValue). InEachCut v.top v.seats (AnswersStay v.top)) c.self.view_is
    (stays c.self.inside.topology c.self.inside.seats.items c.self.invariant)

pub returns-clause-above : goal.returns-clause-above
returns-clause-above c =
    subst (λ (v : ConcludedValue). InEachCut v.top v.seats (LaterCommitsAreAbove v.top)) c.self.view_is
    (above c.self.inside.topology c.self.inside.seats.items c.self.invariant)

pub returns-clause-fresh : goal.returns-clause-fresh
returns-clause-fresh c = grind (arith, fresh)

pub returns-clause-given_up : goal.returns-clause-given_up
returns-clause-given_up c = grind (arith, given_up)

pub returns-clause-entries : goal.returns-clause-entries
returns-clause-entries c = grind (arith, entries)

pub returns-clause-outcomes : goal.returns-clause-outcomes
returns-clause-outcomes c = grind (arith, outcomes)

pub returns-clause-once : goal.returns-clause-once
returns-clause-once c = grind (arith, once)

pub returns-clause-told : goal.returns-clause-told
returns-clause-told c = grind (arith, told)

pub returns-clause-listed : goal.returns-clause-listed
returns-clause-listed c = grind (arith, are_told)
