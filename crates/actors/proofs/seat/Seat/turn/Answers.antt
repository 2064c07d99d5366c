use Rattle.std.specs.Prelude.{◌⊎◌, All, IsSome, Result, Err, IfErr}
use Rattle.actors.specs.Resting.{unsent, WasEmpty, HasNoEnvelope}
use Rattle.actors.specs.Turns.{IsTurn, IsWork, HasFoundNone, HasLooked}
use Rattle.actors.proofs.Turning.{rested, fewer, waits, none_left, worked_on, each_worked, worked_looked}
use Rattle.std.proofs.Common.{inl, inr, sym, subst, ◌≡◌, ◌<◌, ◌∙◌, [], length, None, true, false, ap, rules, arith}
use Rattle.logical_time.specs.declared.fault.Fault.{Fault}
use Rattle.actors.specs.Refusals.{CanRefuse}
use Rattle.actors.specs.declared.turn.Turn.{Turn}
use Rattle.actors.specs.Seats.{SeatValue, rings}
use Rattle.actors.proofs.Looking.{next_handled}
use Rattle.actors.proofs.Refusing.{work_refused, handle_refused, stuck_refused}
use Rattle.actors.proofs.seat.Seat.turn.Goals.{else-not-is_empty-via-then-not-is_empty+else-is_free, else-not-is_empty-via-else-not-is_empty}
use Rattle.std.proofs.lemmas.Grind.{common_steps}
use Rattle.actors.proofs.seat.Seat.turn.Goals as goal

pub returns-then-is_some-clause-looked : goal.returns-then-is_some-clause-looked
returns-then-is_some-clause-looked g c =
    let flushed = c.flush-moved.ensures.same in
    let taken = c.take_in.ensures.same in
    let some : IsSome c.take_in.new.self.held = search rules in
    next_handled c.args.self.now c.flush-moved.new.self c.take_in.new.self c.handle.new.self some c.take_in.ensures.next c.in_ok-handle.ensures.event
    (ap (λ (s : SeatValue). s.held) flushed) (ap (λ (s : SeatValue). s.next) flushed) (ap (λ (s : SeatValue). s.journal) taken ∙ ap (λ (s : SeatValue). s.journal) flushed)
    c.handle.ensures.rings.0 c.handle.ensures.rings.1

pub returns-then-is_free-clause-refused : goal.returns-then-is_free-clause-refused
returns-then-is_free-clause-refused g c =
    let m = c.take_in.new.self in
    let some : 0 < length m.backlog = search rules in
    let none : m.held ≡ None = search rules in
    let free : m.free ≡ true = search rules in
    work_refused g.M.Machine.refuses m c.work.new.self c.work.result some none free c.work.ensures.err c.work.ensures.refused

pub returns-then-is_free-clause-looked : goal.returns-then-is_free-clause-looked
returns-then-is_free-clause-looked g c =
    let m = c.take_in.new.self in
    let none : m.held ≡ None = search rules in
    let looked = c.take_in.ensures.looked none in
    let rings = c.work.ensures.rings in
    let next : c.work.new.self.next ≡ c.args.self.now.next = rings.2 ∙ (looked.1 ∙ ap (λ (s : SeatValue). s.next) c.flush-moved.ensures.same) in
    let found : HasFoundNone c.args.self.now c.work.new.self =
    (record { held = rings.1 ∙ none; looked = subst (λ ls. All WasEmpty ls) (sym rings.0) looked.0 }, next) in
    each_worked IsWork (λ t. HasLooked t c.args.self.now c.work.new.self) IsWork c.work.result
    (λ t work same. worked_looked t c.args.self.now c.work.new.self found work) c.work.ensures.work c.work.ensures.work

pub returns-then-is_free-clause-ok : goal.returns-then-is_free-clause-ok
returns-then-is_free-clause-ok g c =
    each_worked (λ t. IsTurn g.M.Machine.refuses t c.take_in.new.self c.work.new.self) (λ t. IsTurn g.M.Machine.refuses t c.args.self.now c.work.new.self) IsWork c.work.result
    (worked_on c.args.self.now c.flush-moved.new.self c.take_in.new.self c.flush-moved.ensures.same c.take_in.ensures.same c.flush-moved.ensures.ends c.take_in.ensures.sources g.M.Machine.refuses c.work.new.self) c.work.ensures.work c.work.ensures.ok

pub returns-then-moved-clause-ok : goal.returns-then-moved-clause-ok
returns-then-moved-clause-ok g c =
    let nothing : (c.take_in.new.self.backlog ≡ []) ⊎ (c.take_in.new.self.free ≡ false) = elim c.else-not-is_empty.branch [ else-not-is_empty-via-then-not-is_empty+else-is_free w ↦ inr (search rules) | else-not-is_empty-via-else-not-is_empty w ↦ inl (none_left c.take_in.new.self.backlog (search rules)) ] in
    let none : HasNoEnvelope c.take_in.new.self = search rules in
    let moved : unsent c.flush-moved.new.self < unsent c.args.self.now = search rules in (
      rested c.args.self.now c.flush-moved.new.self c.take_in.new.self c.flush-moved.ensures.same c.take_in.ensures.same c.flush-moved.ensures.ends c.take_in.ensures.sources c.in_ok-moved.ensures.sorted c.in_ok-moved.ensures.flushed none nothing,
      fewer c.args.self.now c.flush-moved.new.self c.take_in.new.self c.flush-moved.ensures.same c.take_in.ensures.same c.flush-moved.ensures.ends c.take_in.ensures.sources moved,
    )

pub returns-else-moved-clause-ok : goal.returns-else-moved-clause-ok
returns-else-moved-clause-ok g c =
    let nothing : (c.take_in.new.self.backlog ≡ []) ⊎ (c.take_in.new.self.free ≡ false) = elim c.else-not-is_empty.branch [ else-not-is_empty-via-then-not-is_empty+else-is_free w ↦ inr (search rules) | else-not-is_empty-via-else-not-is_empty w ↦ inl (none_left c.take_in.new.self.backlog (search rules)) ] in
    let none : HasNoEnvelope c.take_in.new.self = search rules in
    let quiet : c.in_ok-moved.moved ≡ false = search rules in
    let still = c.in_ok-moved.ensures.still quiet in (
      rested c.args.self.now c.flush-moved.new.self c.take_in.new.self c.flush-moved.ensures.same c.take_in.ensures.same c.flush-moved.ensures.ends c.take_in.ensures.sources c.in_ok-moved.ensures.sorted c.in_ok-moved.ensures.flushed none nothing,
      ap (λ (s : SeatValue). rings s.outgoing) c.take_in.ensures.same ∙ still.0,
      waits c.args.self.now c.flush-moved.new.self c.take_in.new.self c.flush-moved.ensures.same c.take_in.ensures.same c.flush-moved.ensures.ends c.take_in.ensures.sources ∙ still.1,
    )

pub returns-in_err-handle-clause-refused : goal.returns-in_err-handle-clause-refused
returns-in_err-handle-clause-refused g c =
    let some : IsSome c.take_in.new.self.held = search rules in
    let is : c.from_residual-in_err-handle.result ≡ Err c.in_err-handle.field-0.0 = search rules in
    subst (λ (r : Result Turn Fault). IfErr r (λ fault. CanRefuse g.M.Machine.refuses fault c.handle.new.self)) (sym is)
    (handle_refused g.M.Machine.refuses c.take_in.new.self c.handle.new.self c.in_err-handle.field-0.0 some c.in_err-handle.ensures.err c.in_err-handle.ensures.refused)

pub returns-else-moved-clause-err : goal.returns-else-moved-clause-err
returns-else-moved-clause-err g c = grind (arith, common_steps)

pub returns-else-moved-clause-flushed : goal.returns-else-moved-clause-flushed
returns-else-moved-clause-flushed g c = grind (arith, common_steps)

pub returns-else-moved-clause-full : goal.returns-else-moved-clause-full
returns-else-moved-clause-full g c = grind (arith, common_steps)

pub returns-else-moved-clause-refused : goal.returns-else-moved-clause-refused
returns-else-moved-clause-refused g c = grind (arith, common_steps)

pub returns-in_err-handle-clause-err : goal.returns-in_err-handle-clause-err
returns-in_err-handle-clause-err g c = grind (arith, common_steps)

pub returns-in_err-handle-clause-flushed : goal.returns-in_err-handle-clause-flushed
returns-in_err-handle-clause-flushed g c = grind (arith, common_steps)

pub returns-in_err-handle-clause-full : goal.returns-in_err-handle-clause-full
returns-in_err-handle-clause-full g c = grind (arith, common_steps)

pub returns-in_err-moved-clause-err : goal.returns-in_err-moved-clause-err
returns-in_err-moved-clause-err g c = grind (arith, common_steps)

pub returns-in_err-moved-clause-flushed : goal.returns-in_err-moved-clause-flushed
returns-in_err-moved-clause-flushed g c = grind (arith, common_steps)

pub returns-in_err-moved-clause-full : goal.returns-in_err-moved-clause-full
returns-in_err-moved-clause-full g c = grind (arith, common_steps)

pub returns-in_err-moved-clause-refused : goal.returns-in_err-moved-clause-refused
returns-in_err-moved-clause-refused g c = grind (arith, common_steps)

pub returns-then-is_free-clause-err : goal.returns-then-is_free-clause-err
returns-then-is_free-clause-err g c = grind (arith, common_steps)

pub returns-then-is_free-clause-full : goal.returns-then-is_free-clause-full
returns-then-is_free-clause-full g c = grind (arith, common_steps)

pub returns-then-is_some-clause-err : goal.returns-then-is_some-clause-err
returns-then-is_some-clause-err g c = grind (arith, common_steps)

pub returns-then-is_some-clause-flushed : goal.returns-then-is_some-clause-flushed
returns-then-is_some-clause-flushed g c = grind (arith, common_steps)

pub returns-then-is_some-clause-full : goal.returns-then-is_some-clause-full
returns-then-is_some-clause-full g c = grind (arith, common_steps)

pub returns-then-is_some-clause-refused : goal.returns-then-is_some-clause-refused
returns-then-is_some-clause-refused g c = grind (arith, common_steps)

pub returns-then-moved-clause-err : goal.returns-then-moved-clause-err
returns-then-moved-clause-err g c = grind (arith, common_steps)

pub returns-then-moved-clause-flushed : goal.returns-then-moved-clause-flushed
returns-then-moved-clause-flushed g c = grind (arith, common_steps)

pub returns-then-moved-clause-full : goal.returns-then-moved-clause-full
returns-then-moved-clause-full g c = grind (arith, common_steps)

pub returns-then-moved-clause-refused : goal.returns-then-moved-clause-refused
returns-then-moved-clause-refused g c = grind (arith, common_steps)

pub returns-then-is_stuck-clause-refused : goal.returns-then-is_stuck-clause-refused
returns-then-is_stuck-clause-refused g c =
    let stuck = c.is_stuck.ensures.stuck c.if-is_stuck.true in
    stuck_refused g.M.Machine.refuses c.take_in.new.self stuck.0 stuck.1
