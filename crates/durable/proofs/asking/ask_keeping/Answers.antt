use Rattle.std.proofs.Common.{◌∙◌, ap, subst, Err}
use Rattle.messages.specs.Topology.{session_node}
use Rattle.world.specs.World.{IsRefusedAs}
use Rattle.service.specs.declared.asking.Unanswered.{Unanswered}
use Rattle.service.specs.Port.{refused_at, IsAnswered, IsUntold, IsTurnedAway, AsksTelling}
use Rattle.durable.proofs.Requests.{at_there}
use Rattle.durable.proofs.Asked.{unkept_asks, answered_asks, untold_asks, turned_away_asks, unready_logged, unkept_logged, answered_logged, untold_logged, turned_away_logged}
use Rattle.durable.proofs.asking.ask_keeping.Goals as goal

pub returns-in_err-make_ready-clause-logged : goal.returns-in_err-make_ready-clause-logged
returns-in_err-make_ready-clause-logged g c =
    unready_logged g.D.Disk.seen g.D.Disk.may_leave c.args.world.now.top c.args.log.now c.args.world.now.events c.make_ready.new.world.events c.in_err-make_ready.field-0.0 c.in_err-make_ready.ensures.refused

pub returns-in-Err-clause-asks : goal.returns-in-Err-clause-asks
returns-in-Err-clause-asks g c =
    let top = c.args.world.now.top in
    let mid = c.make_ready.new.world in
    let n = c.session_node-session.ensures ∙ ap (λ t. session_node t c.args.index) c.topology.ensures.value in
    unkept_asks top (session_node top c.args.index) c.args.op c.args.world.now.events mid.events c.unkept.result c.in_ok-make_ready.ensures.ok
    (at_there (λ z m. IsRefusedAs (refused_at z m c.args.op mid.events) c.unkept.result) mid.top top c.session_node-session.result (session_node top c.args.index) c.in_ok-make_ready.ensures.topology n c.unkept.ensures)

pub returns-in-Err-clause-logged : goal.returns-in-Err-clause-logged
returns-in-Err-clause-logged g c =
    unkept_logged g.D.Disk.seen g.D.Disk.may_leave c.args.world.now.top c.args.log.now c.note_request.new.log c.args.world.now.events c.make_ready.new.world.events c.in_ok-make_ready.ensures.ok c.in-Err.ensures.err

pub returns-in-Ok-ask_present-clause-asks : goal.returns-in-Ok-ask_present-clause-asks
returns-in-Ok-ask_present-clause-asks g c =
    let top = c.args.world.now.top in
    let mid = c.make_ready.new.world in
    let n = c.session_node-session.ensures ∙ ap (λ t. session_node t c.args.index) c.topology.ensures.value in
    answered_asks top (session_node top c.args.index) c.args.op c.args.world.now.events mid.events c.ask_present.new.world.events c.in-Ok-ask_present.outcome c.in_ok-make_ready.ensures.ok
    (at_there (λ z m. IsAnswered z m c.args.op mid.events c.in-Ok-ask_present.outcome c.ask_present.new.world.events) mid.top top c.session_node-session.result (session_node top c.args.index)
    c.in_ok-make_ready.ensures.topology n c.in-Ok-ask_present.ensures.asks)

pub returns-in-Ok-ask_present-clause-logged : goal.returns-in-Ok-ask_present-clause-logged
returns-in-Ok-ask_present-clause-logged g c =
    let top = c.args.world.now.top in
    let mid = c.make_ready.new.world in
    let n = c.session_node-session.ensures ∙ ap (λ t. session_node t c.args.index) c.topology.ensures.value in
    answered_logged g.D.Disk.seen g.D.Disk.may_leave top c.args.log.now c.note_request.new.log c.in-Ok.mark c.args.index c.args.op c.args.world.now.events mid.events c.in_ok-make_ready.ensures.ok c.in-Ok.ensures.ok
    c.ask_present.new.world.events c.in-Ok-ask_present.outcome
    (at_there (λ z m. IsAnswered z m c.args.op mid.events c.in-Ok-ask_present.outcome c.ask_present.new.world.events) mid.top top c.session_node-session.result (session_node top c.args.index)
    c.in_ok-make_ready.ensures.topology n c.in-Ok-ask_present.ensures.asks)

pub returns-in-Err-Untold-clause-asks : goal.returns-in-Err-Untold-clause-asks
returns-in-Err-Untold-clause-asks g c =
    let top = c.args.world.now.top in
    let mid = c.make_ready.new.world in
    let n = c.session_node-session.ensures ∙ ap (λ t. session_node t c.args.index) c.topology.ensures.value in
    untold_asks top (session_node top c.args.index) c.args.op c.args.world.now.events mid.events c.ask_present.new.world.events c.in-Err-Untold.fault c.in_ok-make_ready.ensures.ok
    (at_there (λ z m. IsUntold z m c.args.op mid.events c.in-Err-Untold.fault c.ask_present.new.world.events) mid.top top c.session_node-session.result (session_node top c.args.index)
    c.in_ok-make_ready.ensures.topology n
    (subst (λ (u : Unanswered). AsksTelling mid.top c.session_node-session.result mid.events c.args.op (Err u) c.ask_present.new.world.events) c.in-Err-Untold.field-0-is c.in-Err-Untold.ensures.asks))

pub returns-in-Err-Untold-clause-logged : goal.returns-in-Err-Untold-clause-logged
returns-in-Err-Untold-clause-logged g c =
    let top = c.args.world.now.top in
    let mid = c.make_ready.new.world in
    let n = c.session_node-session.ensures ∙ ap (λ t. session_node t c.args.index) c.topology.ensures.value in
    untold_logged g.D.Disk.seen g.D.Disk.may_leave top c.args.log.now c.note_request.new.log c.in-Ok.mark c.args.index c.args.op c.args.world.now.events mid.events c.in_ok-make_ready.ensures.ok c.in-Ok.ensures.ok
    c.ask_present.new.world.events c.in-Err-Untold.fault
    (at_there (λ z m. IsUntold z m c.args.op mid.events c.in-Err-Untold.fault c.ask_present.new.world.events) mid.top top c.session_node-session.result (session_node top c.args.index)
    c.in_ok-make_ready.ensures.topology n
    (subst (λ (u : Unanswered). AsksTelling mid.top c.session_node-session.result mid.events c.args.op (Err u) c.ask_present.new.world.events) c.in-Err-Untold.field-0-is c.in-Err-Untold.ensures.asks))

pub returns-in-Err-TurnedAway-clause-asks : goal.returns-in-Err-TurnedAway-clause-asks
returns-in-Err-TurnedAway-clause-asks g c =
    let top = c.args.world.now.top in
    let mid = c.make_ready.new.world in
    let n = c.session_node-session.ensures ∙ ap (λ t. session_node t c.args.index) c.topology.ensures.value in
    turned_away_asks top (session_node top c.args.index) c.args.op c.args.world.now.events mid.events c.ask_present.new.world.events c.in-Err-TurnedAway.fault c.in_ok-make_ready.ensures.ok
    (at_there (λ z m. IsTurnedAway z m c.args.op mid.events c.in-Err-TurnedAway.fault c.ask_present.new.world.events) mid.top top c.session_node-session.result (session_node top c.args.index)
    c.in_ok-make_ready.ensures.topology n
    (subst (λ (u : Unanswered). AsksTelling mid.top c.session_node-session.result mid.events c.args.op (Err u) c.ask_present.new.world.events) c.in-Err-TurnedAway.field-0-is c.in-Err-TurnedAway.ensures.asks))

pub returns-in-Err-TurnedAway-clause-logged : goal.returns-in-Err-TurnedAway-clause-logged
returns-in-Err-TurnedAway-clause-logged g c =
    let top = c.args.world.now.top in
    let mid = c.make_ready.new.world in
    let n = c.session_node-session.ensures ∙ ap (λ t. session_node t c.args.index) c.topology.ensures.value in
    turned_away_logged g.D.Disk.seen g.D.Disk.may_leave top c.args.log.now c.note_request.new.log c.in-Ok.mark c.args.index c.args.op c.args.world.now.events mid.events c.in_ok-make_ready.ensures.ok c.in-Ok.ensures.ok
    c.take_back.new.log c.ask_present.new.world.events c.in-Err-TurnedAway.fault c.take_back.ensures.back
    (at_there (λ z m. IsTurnedAway z m c.args.op mid.events c.in-Err-TurnedAway.fault c.ask_present.new.world.events) mid.top top c.session_node-session.result (session_node top c.args.index)
    c.in_ok-make_ready.ensures.topology n
    (subst (λ (u : Unanswered). AsksTelling mid.top c.session_node-session.result mid.events c.args.op (Err u) c.ask_present.new.world.events) c.in-Err-TurnedAway.field-0-is c.in-Err-TurnedAway.ensures.asks))
