use Rattle.std.proofs.Common.{◌≡◌, ◌∙◌, ◌++◌, ℕ, List, [], true, subst, sym, refl, inl, inr, Result, Err, rules}
use Rattle.readiness.specs.declared.connection.TheConstants.{LIMIT}
use Rattle.std.specs.Prelude.{◌⊎◌, slice_get}
use Rattle.std.specs.List.{Contains}
use Rattle.logical_time.specs.declared.fault.Fault.{Fault}
use Rattle.readiness.specs.Places.{Rests, SettledFirst}
use Rattle.doors.specs.Rounds.{GoesOn}
use Rattle.doors.specs.Silence.{AreMarked, IsSentAway}
use Rattle.readiness.proofs.Positions.{chain_none}
use Rattle.readiness.proofs.Silent.{silent-none}
use Rattle.doors.proofs.Silent.{vacated, marked_then}
use Rattle.doors.proofs.Rounds.{round_of, room_of, taken_then, all_go_on, noted_turned, count_turned, count_closed, count_vacated, count_given, settled_on}
use Rattle.doors.proofs.Spans.{spans_waited, spans_closed, spans_made, spans_round, left_none}
use Rattle.doors.proofs.listening.Doors.round.Goals as goal

-- ## The chain

pub returns-in_err-wait-clause-chain : goal.returns-in_err-wait-clause-chain
returns-in_err-wait-clause-chain g c = chain_none g.P.SharedPort.steps (g.P.SharedPort.seen c.args.port.now)

pub returns-in_err-turns-clause-chain : goal.returns-in_err-turns-clause-chain
returns-in_err-turns-clause-chain g c = (c.turns.ensures.turned.0, c.turns.ensures.turned.1.chain)

pub returns-in_err-close_all-clause-chain : goal.returns-in_err-close_all-clause-chain
returns-in_err-close_all-clause-chain g c = (c.turns.ensures.turned.0, c.turns.ensures.turned.1.chain)

pub returns-in_err-make_room-clause-chain : goal.returns-in_err-make_room-clause-chain
returns-in_err-make_room-clause-chain g c = (c.turns.ensures.turned.0, c.turns.ensures.turned.1.chain)

pub returns-in_err-accept_all-clause-chain : goal.returns-in_err-accept_all-clause-chain
returns-in_err-accept_all-clause-chain g c = (c.turns.ensures.turned.0, c.turns.ensures.turned.1.chain)

pub returns-clause-chain : goal.returns-clause-chain
returns-clause-chain g c = (c.turns.ensures.turned.0, c.turns.ensures.turned.1.chain)

-- ## That the port settled first

pub returns-in_err-wait-clause-settled : goal.returns-in_err-wait-clause-settled
returns-in_err-wait-clause-settled g c = inl (silent-none g.L.ReadyLine.seen c.args.self.now.hall.places.places.items, refl)

pub returns-in_err-turns-clause-settled : goal.returns-in_err-turns-clause-settled
returns-in_err-turns-clause-settled g c =
    let same : c.from_residual-in_err-turns.result ≡ Err c.in_err-turns.field-0.0 = search rules in
    inr (subst (λ (r : Result (Unit {0}) Fault). SettledFirst g.L.ReadyLine.seen g.P.SharedPort.kept g.P.SharedPort.settles c.args.self.now.hall.places.places.items c.args.port.now c.turns.new.places.places.items c.turns.new.port r) (sym same) c.in_err-turns.ensures.settled)

pub returns-in_err-close_all-clause-settled : goal.returns-in_err-close_all-clause-settled
returns-in_err-close_all-clause-settled g c = inr (settled_on g.L.ReadyLine.seen g.P.SharedPort.kept g.P.SharedPort.settles c.args.self.now.hall.places.places.items c.args.port.now c.turns.new.places.places.items _ c.turns.new.port tt _ c.in_ok-turns.ensures.settled)

pub returns-in_err-make_room-clause-settled : goal.returns-in_err-make_room-clause-settled
returns-in_err-make_room-clause-settled g c = inr (settled_on g.L.ReadyLine.seen g.P.SharedPort.kept g.P.SharedPort.settles c.args.self.now.hall.places.places.items c.args.port.now c.turns.new.places.places.items _ c.turns.new.port tt _ c.in_ok-turns.ensures.settled)

pub returns-in_err-accept_all-clause-settled : goal.returns-in_err-accept_all-clause-settled
returns-in_err-accept_all-clause-settled g c = inr (settled_on g.L.ReadyLine.seen g.P.SharedPort.kept g.P.SharedPort.settles c.args.self.now.hall.places.places.items c.args.port.now c.turns.new.places.places.items _ c.turns.new.port tt _ c.in_ok-turns.ensures.settled)

pub returns-clause-settled : goal.returns-clause-settled
returns-clause-settled g c = inr (settled_on g.L.ReadyLine.seen g.P.SharedPort.kept g.P.SharedPort.settles c.args.self.now.hall.places.places.items c.args.port.now c.turns.new.places.places.items _ c.turns.new.port tt _ c.in_ok-turns.ensures.settled)

-- ## How many places

pub returns-in_err-turns-clause-count : goal.returns-in_err-turns-clause-count
returns-in_err-turns-clause-count g c = count_turned g.L.ReadyLine.seen g.P.SharedPort.steps c.args.self.now.hall.places.places.items (g.P.SharedPort.seen c.args.port.now) c.turns.new.places.places.items (g.P.SharedPort.seen c.turns.new.port) c.turns.ensures.turned

pub returns-in_err-close_all-clause-count : goal.returns-in_err-close_all-clause-count
returns-in_err-close_all-clause-count g c = count_closed g.L.ReadyLine.seen c.turns.new.places.places.items c.close_all.new.self.places.places.items c.close_all.ensures.leaves ∙ count_turned g.L.ReadyLine.seen g.P.SharedPort.steps c.args.self.now.hall.places.places.items (g.P.SharedPort.seen c.args.port.now) c.turns.new.places.places.items (g.P.SharedPort.seen c.turns.new.port) c.turns.ensures.turned

pub returns-in_err-make_room-clause-count : goal.returns-in_err-make_room-clause-count
returns-in_err-make_room-clause-count g c = count_vacated c.close_all.new.self.places.places.items c.make_room.new.hall.places.places.items (vacated g.L.ReadyLine.seen c.args.self.now.idle c.args.time c.deref-5.result.now c.deref-6.result.now c.close_all.new.self.places.places.items c.make_room.new.hall.places.places.items c.make_room.ensures.room) ∙ count_closed g.L.ReadyLine.seen c.turns.new.places.places.items c.close_all.new.self.places.places.items c.close_all.ensures.leaves ∙ count_turned g.L.ReadyLine.seen g.P.SharedPort.steps c.args.self.now.hall.places.places.items (g.P.SharedPort.seen c.args.port.now) c.turns.new.places.places.items (g.P.SharedPort.seen c.turns.new.port) c.turns.ensures.turned

pub returns-in_err-accept_all-clause-count : goal.returns-in_err-accept_all-clause-count
returns-in_err-accept_all-clause-count g c = count_given c.make_room.new.hall.places.places.items c.accept_all.new.hall.places.places.items c.accept_all.ensures.comes ∙ count_vacated c.close_all.new.self.places.places.items c.make_room.new.hall.places.places.items (vacated g.L.ReadyLine.seen c.args.self.now.idle c.args.time c.deref-5.result.now c.deref-6.result.now c.close_all.new.self.places.places.items c.make_room.new.hall.places.places.items c.make_room.ensures.room) ∙ count_closed g.L.ReadyLine.seen c.turns.new.places.places.items c.close_all.new.self.places.places.items c.close_all.ensures.leaves ∙ count_turned g.L.ReadyLine.seen g.P.SharedPort.steps c.args.self.now.hall.places.places.items (g.P.SharedPort.seen c.args.port.now) c.turns.new.places.places.items (g.P.SharedPort.seen c.turns.new.port) c.turns.ensures.turned

pub returns-clause-count : goal.returns-clause-count
returns-clause-count g c = count_given c.make_room.new.hall.places.places.items c.accept_all.new.hall.places.places.items c.accept_all.ensures.comes ∙ count_vacated c.close_all.new.self.places.places.items c.make_room.new.hall.places.places.items (vacated g.L.ReadyLine.seen c.args.self.now.idle c.args.time c.deref-5.result.now c.deref-6.result.now c.close_all.new.self.places.places.items c.make_room.new.hall.places.places.items c.make_room.ensures.room) ∙ count_closed g.L.ReadyLine.seen c.turns.new.places.places.items c.close_all.new.self.places.places.items c.close_all.ensures.leaves ∙ count_turned g.L.ReadyLine.seen g.P.SharedPort.steps c.args.self.now.hall.places.places.items (g.P.SharedPort.seen c.args.port.now) c.turns.new.places.places.items (g.P.SharedPort.seen c.turns.new.port) c.turns.ensures.turned

-- ## What became of the connections

pub returns-in_err-wait-clause-spans : goal.returns-in_err-wait-clause-spans
returns-in_err-wait-clause-spans g c = spans_waited g.L.ReadyLine.seen g.P.SharedPort.steps g.D.Doorway.steps c.args.self.now.idle c.args.self.now.door c.wait.new.door c.args.self.now.hall.places.places.items (g.P.SharedPort.seen c.args.port.now) c.wait.ensures.step

pub returns-in_err-turns-clause-spans : goal.returns-in_err-turns-clause-spans
returns-in_err-turns-clause-spans g c =
    spans_closed g.L.ReadyLine.seen g.P.SharedPort.steps g.D.Doorway.steps c.args.self.now.idle c.args.self.now.door c.wait.new.door c.args.self.now.hall.places.places.items (g.P.SharedPort.seen c.args.port.now) c.turns.new.places.places.items (g.P.SharedPort.seen c.turns.new.port) c.turns.new.places.places.items c.wait.ensures.step c.turns.ensures.turned (left_none g.L.ReadyLine.seen c.turns.new.places.places.items)

pub returns-in_err-close_all-clause-spans : goal.returns-in_err-close_all-clause-spans
returns-in_err-close_all-clause-spans g c =
    spans_closed g.L.ReadyLine.seen g.P.SharedPort.steps g.D.Doorway.steps c.args.self.now.idle c.args.self.now.door c.wait.new.door c.args.self.now.hall.places.places.items (g.P.SharedPort.seen c.args.port.now) c.turns.new.places.places.items (g.P.SharedPort.seen c.turns.new.port) c.close_all.new.self.places.places.items c.wait.ensures.step c.turns.ensures.turned c.close_all.ensures.left

pub returns-in_err-make_room-clause-spans : goal.returns-in_err-make_room-clause-spans
returns-in_err-make_room-clause-spans g c =
    spans_made g.L.ReadyLine.seen g.P.SharedPort.steps g.D.Doorway.steps c.args.self.now.idle c.args.time c.deref-5.result.now c.deref-6.result.now c.args.self.now.door c.wait.new.door c.args.self.now.hall.places.places.items (g.P.SharedPort.seen c.args.port.now) c.turns.new.places.places.items (g.P.SharedPort.seen c.turns.new.port) c.close_all.new.self.places.places.items c.make_room.new.hall.places.places.items c.wait.ensures.step c.turns.ensures.turned c.close_all.ensures.left c.make_room.ensures.room

pub returns-in_err-accept_all-clause-spans : goal.returns-in_err-accept_all-clause-spans
returns-in_err-accept_all-clause-spans g c =
    spans_round g.L.ReadyLine.seen g.P.SharedPort.steps g.D.Doorway.steps c.args.self.now.idle c.args.time c.deref-5.result.now c.deref-6.result.now c.args.self.now.door c.wait.new.door c.accept_all.new.door c.args.self.now.hall.places.places.items (g.P.SharedPort.seen c.args.port.now) c.turns.new.places.places.items (g.P.SharedPort.seen c.turns.new.port) c.close_all.new.self.places.places.items c.make_room.new.hall.places.places.items c.accept_all.new.hall.places.places.items c.wait.ensures.step c.turns.ensures.turned c.close_all.ensures.left c.make_room.ensures.room c.accept_all.ensures.come

pub returns-clause-spans : goal.returns-clause-spans
returns-clause-spans g c =
    spans_round g.L.ReadyLine.seen g.P.SharedPort.steps g.D.Doorway.steps c.args.self.now.idle c.args.time c.deref-5.result.now c.deref-6.result.now c.args.self.now.door c.wait.new.door c.accept_all.new.door c.args.self.now.hall.places.places.items (g.P.SharedPort.seen c.args.port.now) c.turns.new.places.places.items (g.P.SharedPort.seen c.turns.new.port) c.close_all.new.self.places.places.items c.make_room.new.hall.places.places.items c.accept_all.new.hall.places.places.items c.wait.ensures.step c.turns.ensures.turned c.close_all.ensures.left c.make_room.ensures.room c.accept_all.ensures.come

-- ## The round

pub returns-clause-promised : goal.returns-clause-promised
returns-clause-promised g c = c.in_ok-wait.ensures.promised

pub returns-clause-round : goal.returns-clause-round
returns-clause-round g c =
    round_of LIMIT g.L.ReadyLine.seen g.P.SharedPort.steps g.D.Doorway.nobody g.D.Doorway.announces c.args.time c.args.self.now _ (g.P.SharedPort.seen c.args.port.now) (g.P.SharedPort.seen c.turns.new.port) c.turns.new.places.places.items c.close_all.new.self.places.places.items c.make_room.new.hall.places.places.items c.turns.new.over.items
    c.turns.ensures.turned (subst (λ (t : List ℕ). Rests LIMIT g.L.ReadyLine.seen t c.turns.new.again.items c.turns.new.over.items c.args.self.now.hall.places.places.items c.turns.new.places.places.items) c.deref-3.ensures.value c.in_ok-turns.ensures.rests) c.close_all.ensures.leaves (subst (λ (t : List ℕ). (k : ℕ) → Contains t k → GoesOn g.L.ReadyLine.seen (slice_get c.close_all.new.self.places.places.items k)) c.deref-4.ensures.value c.in_ok-close_all.ensures.away) (marked_then c.args.time (c.args.self.now.ready.items ++ c.args.self.now.hall.fresh.items) c.wait.new.ready.items c.args.self.now.since.items c.mark_last.new.since.items c.mark.new.since.items (subst (λ (t : List ℕ). AreMarked c.args.time (t ++ c.args.self.now.hall.fresh.items) c.args.self.now.since.items c.mark_last.new.since.items) c.deref.ensures.value c.mark_last.ensures) (subst (λ (t : List ℕ). AreMarked c.args.time t c.mark_last.new.since.items c.mark.new.since.items) c.deref-2.ensures.value c.mark.ensures)) (room_of g.L.ReadyLine.seen g.D.Doorway.nobody g.D.Doorway.announces c.args.time c.args.self.now c.wait.new.more c.close_all.new.self.free.items c.mark.new.since.items c.turns.new.again.items c.close_all.new.self.places.places.items c.make_room.new.hall.places.places.items (subst (λ (t : List ℕ). (c.make_room.new.hall.places.places.items ≡ c.close_all.new.self.places.places.items) ⊎ ((c.wait.new.more ≡ true) × (c.close_all.new.self.free.items ≡ []) × IsSentAway g.L.ReadyLine.seen c.args.self.now.idle c.args.time t c.turns.new.again.items c.close_all.new.self.places.places.items c.make_room.new.hall.places.places.items)) c.deref-5.ensures.value (subst (λ (t : List ℕ). (c.make_room.new.hall.places.places.items ≡ c.close_all.new.self.places.places.items) ⊎ ((c.wait.new.more ≡ true) × (c.close_all.new.self.free.items ≡ []) × IsSentAway g.L.ReadyLine.seen c.args.self.now.idle c.args.time c.deref-5.result.now t c.close_all.new.self.places.places.items c.make_room.new.hall.places.places.items)) c.deref-6.ensures.value c.make_room.ensures.room)) c.in_ok-wait.ensures.may (λ none sound. taken_then g.L.ReadyLine.seen g.P.SharedPort.steps c.args.self.now.hall.places.places.items c.turns.new.places.places.items c.close_all.new.self.places.places.items (g.P.SharedPort.seen c.args.port.now) (g.P.SharedPort.seen c.turns.new.port) c.args.self.now.hall.free.items c.close_all.new.self.free.items c.turns.ensures.turned c.in_ok-close_all.ensures.noted none sound.noted)) c.accept_all.ensures.comes c.accept_all.ensures.told

pub returns-clause-given : goal.returns-clause-given
returns-clause-given g c sound =
    c.in_ok-accept_all.ensures.why (c.in_ok-make_room.ensures.noted (c.in_ok-close_all.ensures.noted (noted_turned g.L.ReadyLine.seen g.P.SharedPort.steps c.args.self.now.hall.places.places.items (g.P.SharedPort.seen c.args.port.now) c.turns.new.places.places.items (g.P.SharedPort.seen c.turns.new.port) c.args.self.now.hall.free.items c.turns.ensures.turned sound.noted))) (c.in_ok-wait.ensures.known sound.known)

pub returns-clause-sound : goal.returns-clause-sound
returns-clause-sound g c sound = record {
  noted = c.in_ok-accept_all.ensures.noted (c.in_ok-make_room.ensures.noted (c.in_ok-close_all.ensures.noted (noted_turned g.L.ReadyLine.seen g.P.SharedPort.steps c.args.self.now.hall.places.places.items (g.P.SharedPort.seen c.args.port.now) c.turns.new.places.places.items (g.P.SharedPort.seen c.turns.new.port) c.args.self.now.hall.free.items c.turns.ensures.turned sound.noted)));
  known = c.accept_all.ensures.known (c.in_ok-wait.ensures.known sound.known);
  on = all_go_on LIMIT g.L.ReadyLine.seen c.args.self.now.hall.places.places.items c.turns.new.places.places.items c.close_all.new.self.places.places.items c.make_room.new.hall.places.places.items c.accept_all.new.hall.places.places.items c.wait.new.ready.items c.turns.new.again.items c.turns.new.over.items (subst (λ (t : List ℕ). Rests LIMIT g.L.ReadyLine.seen t c.turns.new.again.items c.turns.new.over.items c.args.self.now.hall.places.places.items c.turns.new.places.places.items) c.deref-3.ensures.value c.in_ok-turns.ensures.rests) c.close_all.ensures.leaves (subst (λ (t : List ℕ). (k : ℕ) → Contains t k → GoesOn g.L.ReadyLine.seen (slice_get c.close_all.new.self.places.places.items k)) c.deref-4.ensures.value c.in_ok-close_all.ensures.away) (vacated g.L.ReadyLine.seen c.args.self.now.idle c.args.time c.deref-5.result.now c.deref-6.result.now c.close_all.new.self.places.places.items c.make_room.new.hall.places.places.items c.make_room.ensures.room) c.accept_all.ensures.comes sound.on;
}
