use Rattle.std.proofs.Common.{arith, ◌∙◌}
use Rattle.std.proofs.lemmas.Grind.{elements}
use Rattle.threaded.proofs.AskedFor.{are_asked, with_seat, without_seat}
use Rattle.threaded.proofs.history.history.Goals.{in-Some+in_ok-add_session, in_default}
use Rattle.threaded.proofs.history.history.Goals as goal

pub loop-session-preserved : goal.loop-session-preserved
loop-session-preserved c =
    let top = c.args.topology.now in
    let seats = c.args.seats.now in
    let home = c.home-home.result in
    let n = c.loop-session.session in
    let node = c.session_node-node.result in
    λ states are replays.
    elim c.match-place_of.branch [
      | in-Some+in_ok-add_session w ↦
          w.history-is
          ∙ with_seat top states home seats c.args.dc n node w.in-Some.place w.index-seats-place.result w.journal.result.now c.loop-session.history w.add_session.new.history
          c.home-home.ensures c.session_node-node.ensures w.in-Some.ensures.some w.index-seats-place.is w.journal.ensures.value (c.loop-session.invariant states are replays)
          (w.in_ok-add_session.ensures.ok top states (are_asked top states home seats c.args.dc c.home-home.ensures c.requires are replays))
      | in_default w ↦
          w.history-is
          ∙ without_seat top states seats c.args.dc n node c.loop-session.history c.session_node-node.ensures (c.loop-session.invariant states are replays) w.in_default.ensures.none
    ]

pub offset_bounds-seats-place : goal.offset_bounds-seats-place
offset_bounds-seats-place c = grind (arith, elements)

pub bounds-seats-place : goal.bounds-seats-place
bounds-seats-place c = grind (arith, elements)
