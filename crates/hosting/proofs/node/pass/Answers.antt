use Rattle.std.proofs.Common.{[], ◌∙◌, ap, sym, subst, refl, inl}
use Rattle.site_port.specs.Port.{PortValue, Settles, port_of}
use Rattle.site.specs.Story.{given}
use Rattle.site_port.specs.Ends.{GoesOnWith}
use Rattle.site_port.proofs.Turning.{goes_then}
use Rattle.ways.specs.Crossings.{Nothing}
use Rattle.hosting.specs.Rounds.{due, IsGoing}
use Rattle.hosting.proofs.Passing.{passed_exchange, passed_then, marked_by, leaves_one, leaves_then, gives_none, gives_then, turns_give_none, stopped_gives_none, on_err}
use Rattle.hosting.proofs.Breaking.{passed_to_turned, has_settled, breaks_off}
use Rattle.hosting.proofs.node.pass.Goals as goal

pub returns-in_err-exchange-clause-broken : goal.returns-in_err-exchange-clause-broken
returns-in_err-exchange-clause-broken g c =
    on_err _ _ (
    inl (leaves_one g.W.Ways.steps c.args.ways.now c.exchange.new.self Nothing tt c.exchange.ensures, refl)
    )

pub returns-in_err-hear_all-clause-broken : goal.returns-in_err-hear_all-clause-broken
returns-in_err-hear_all-clause-broken g c =
    on_err _ _ (
    inl (leaves_then g.W.Ways.steps c.args.ways.now c.exchange.new.self c.hear_all.new.ways (leaves_one g.W.Ways.steps c.args.ways.now c.exchange.new.self Nothing tt c.exchange.ensures) c.hear_all.ensures.silent, c.hear_all.ensures.ungiven)
    )

pub returns-in_err-turn-clause-broken : goal.returns-in_err-turn-clause-broken
returns-in_err-turn-clause-broken g c =
    on_err _ _ (
    inl (
      leaves_then g.W.Ways.steps c.args.ways.now c.exchange.new.self c.hear_all.new.ways (leaves_one g.W.Ways.steps c.args.ways.now c.exchange.new.self Nothing tt c.exchange.ensures) c.hear_all.ensures.silent,
      stopped_gives_none _ c.hear_all.new.port.site.site c.turn.new.self.site.site _ _ _ c.in_err-turn.ensures.stopped ∙ c.hear_all.ensures.ungiven,
    )
    )

pub returns-in_err-fresh-clause-broken : goal.returns-in_err-fresh-clause-broken
returns-in_err-fresh-clause-broken g c =
    on_err _ _ (
    inl (
      leaves_then g.W.Ways.steps c.args.ways.now c.exchange.new.self c.hear_all.new.ways (leaves_one g.W.Ways.steps c.args.ways.now c.exchange.new.self Nothing tt c.exchange.ensures) c.hear_all.ensures.silent,
      c.collect_due.ensures.ungiven ∙ (turns_give_none 1000000 c.hear_all.new.port.site.site c.turn.new.self.site.site _ _ c.in_ok-turn.ensures.took ∙ c.hear_all.ensures.ungiven),
    )
    )

pub returns-in_err-settle-clause-broken : goal.returns-in_err-settle-clause-broken
returns-in_err-settle-clause-broken g c =
    on_err _ _ (
    inl (
      leaves_then g.W.Ways.steps c.args.ways.now c.exchange.new.self c.hear_all.new.ways (leaves_one g.W.Ways.steps c.args.ways.now c.exchange.new.self Nothing tt c.exchange.ensures) c.hear_all.ensures.silent,
      ap (λ (p : PortValue). given p.site.story) c.settle.ensures.asks_nothing
          ∙ (c.collect_due.ensures.ungiven ∙ (turns_give_none 1000000 c.hear_all.new.port.site.site c.turn.new.self.site.site _ _ c.in_ok-turn.ensures.took ∙ c.hear_all.ensures.ungiven)),
    )
    )

pub returns-in_err-send_all-clause-broken : goal.returns-in_err-send_all-clause-broken
returns-in_err-send_all-clause-broken g c =
    on_err _ _ (
    breaks_off _ g.W.Ways.steps (due c.args.marks.now c.args.time) c.args.port.now c.hear_all.new.port c.turn.new.self c.collect_due.new.port c.args.ways.now c.exchange.new.self c.hear_all.new.ways
    c.exchange.ensures c.in_ok-hear_all.ensures.heard c.hear_all.ensures.ungiven c.hear_all.ensures.kept c.in_ok-turn.ensures.took c.turn.ensures.stays c.turn.ensures.kept
    c.settle.new.self c.in_ok-fresh.ensures.collected c.collect_due.ensures.stays c.collect_due.ensures.kept c.in_ok-settle.ensures.settled c.settle.ensures.asks_nothing
    c.confirm.new.self c.send_all.new.ways c.send_all.new.port c.confirm.ensures c.in_err-send_all.ensures.broken c.send_all.ensures.kept
    )

pub returns-in_err-flush-clause-broken : goal.returns-in_err-flush-clause-broken
returns-in_err-flush-clause-broken g c =
    on_err _ _ (
    let gone = gives_then g.W.Ways.steps (port_of c.settle.new.self) (port_of c.send_all.new.port) (port_of c.send_all.new.port) c.confirm.new.self c.send_all.new.ways c.flush.new.self c.in_ok-send_all.ensures.sent c.send_all.ensures.undone
    (gives_none g.W.Ways.steps (port_of c.send_all.new.port) c.send_all.new.ways c.flush.new.self (leaves_one g.W.Ways.steps c.send_all.new.ways c.flush.new.self Nothing tt c.flush.ensures)) in
    breaks_off _ g.W.Ways.steps (due c.args.marks.now c.args.time) c.args.port.now c.hear_all.new.port c.turn.new.self c.collect_due.new.port c.args.ways.now c.exchange.new.self c.hear_all.new.ways
    c.exchange.ensures c.in_ok-hear_all.ensures.heard c.hear_all.ensures.ungiven c.hear_all.ensures.kept c.in_ok-turn.ensures.took c.turn.ensures.stays c.turn.ensures.kept
    c.settle.new.self c.in_ok-fresh.ensures.collected c.collect_due.ensures.stays c.collect_due.ensures.kept c.in_ok-settle.ensures.settled c.settle.ensures.asks_nothing
    c.confirm.new.self c.flush.new.self c.send_all.new.port c.confirm.ensures gone c.send_all.ensures.kept
    )

pub returns-clause-passed : goal.returns-clause-passed
returns-clause-passed g c = record {
  settled = c.settle.new.self;
  ways_done = c.hear_all.new.ways;
  first = has_settled _ g.W.Ways.steps (due c.args.marks.now c.args.time) c.args.port.now c.hear_all.new.port c.turn.new.self c.collect_due.new.port c.args.ways.now c.exchange.new.self c.hear_all.new.ways
      c.exchange.ensures c.in_ok-hear_all.ensures.heard c.hear_all.ensures.ungiven c.hear_all.ensures.kept c.in_ok-turn.ensures.took c.turn.ensures.stays c.turn.ensures.kept
      c.settle.new.self c.in_ok-fresh.ensures.collected c.collect_due.ensures.stays c.collect_due.ensures.kept c.in_ok-settle.ensures.settled c.settle.ensures.asks_nothing;
  ways_confirmed = c.confirm.new.self;
  confirmed = c.confirm.ensures;
  gave = passed_then IsGoing g.W.Ways.steps [] (port_of c.settle.new.self) (port_of c.send_all.new.port) (port_of c.send_all.new.port) c.confirm.new.self c.send_all.new.ways c.flush.new.self c.in_ok-send_all.ensures.sent
      (passed_exchange IsGoing g.W.Ways.steps [] (port_of c.send_all.new.port) c.send_all.new.ways c.flush.new.self tt c.flush.ensures);
  undone = c.send_all.ensures.undone;
  kept = c.send_all.ensures.kept;
}

pub returns-clause-marked : goal.returns-clause-marked
returns-clause-marked g c =
    let turned = passed_to_turned (Settles g.K.Disk.seen g.K.Disk.may_leave g.K.Disk.failed g.K.Disk.moment g.K.Disk.left_since) g.W.Ways.steps (due c.args.marks.now c.args.time) c.args.port.now c.hear_all.new.port c.turn.new.self c.turn.new.self c.args.ways.now c.exchange.new.self c.hear_all.new.ways
    c.exchange.ensures c.in_ok-hear_all.ensures.heard c.hear_all.ensures.ungiven c.hear_all.ensures.kept c.in_ok-turn.ensures.took c.turn.ensures.stays c.turn.ensures.kept in
    let sent = subst (λ (p : PortValue). GoesOnWith p.site c.in_ok-send_all.ensures.sent.happened c.send_all.new.port.site.site) c.settle.ensures.asks_nothing c.in_ok-send_all.ensures.sent.passed.went in
    let rest = goes_then c.turn.new.self.site.site c.collect_due.new.port.site.site c.send_all.new.port.site.site c.in_ok-fresh.ensures.collected.happened c.in_ok-send_all.ensures.sent.happened c.in_ok-fresh.ensures.collected.went sent in
    marked_by c.args.time c.args.port.now.site.site c.turn.new.self.site.site c.send_all.new.port.site.site turned.happened _ c.args.marks.now c.renew.new.marks _ turned.passed.went rest c.renew.ensures c.in_ok-fresh.ensures.marked
