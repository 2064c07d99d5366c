use Rattle.std.proofs.Common.{[], ◌∙◌, ◌≡◌, ◌+◌, length, refl, sym, inl, inr, ap, arith}
use Rattle.site.specs.Story.{given}
use Rattle.site_port.specs.Port.{port_of}
use Rattle.hosting.specs.Rounds.{IsGoing}
use Rattle.hosting.proofs.Passing.{passed_none, passed_then, gives_then, on_err}
use Rattle.hosting.proofs.crossing.send_all.Goals as goal

pub loop-sent-init : goal.loop-sent-init
loop-sent-init g c = record { sent = passed_none IsGoing g.W.Ways.steps [] (port_of c.args.port.now) c.args.ways.now; undone = refl; count = omega (arith); kept = refl }

pub returns-then-not-branch : goal.returns-then-not-branch
returns-then-not-branch g c = record {
  sent = passed_then IsGoing g.W.Ways.steps [] (port_of c.args.port.now) (port_of c.loop-sent.port) (port_of c.send_one.new.port) c.args.ways.now c.loop-sent.ways c.send_one.new.ways c.loop-sent.invariant.sent c.in_ok-send_one.ensures.sent;
  rests = inl (c.in_ok-send_one.ensures.none c.if-not-branch.true);
  broken = tt;
  undone = c.in_ok-send_one.ensures.undone ∙ c.loop-sent.invariant.undone;
  kept = c.in_ok-send_one.ensures.kept ∙ c.loop-sent.invariant.kept;
}

pub loop-sent-preserved : goal.loop-sent-preserved
loop-sent-preserved g c = record {
  sent = passed_then IsGoing g.W.Ways.steps [] (port_of c.args.port.now) (port_of c.loop-sent.port) (port_of c.send_one.new.port) c.args.ways.now c.loop-sent.ways c.send_one.new.ways c.loop-sent.invariant.sent c.in_ok-send_one.ensures.sent;
  undone = c.in_ok-send_one.ensures.undone ∙ c.loop-sent.invariant.undone;
  count = omega (arith, c.in_ok-send_one.ensures.more c.if-not-branch.false, c.loop-sent.invariant.count);
  kept = c.in_ok-send_one.ensures.kept ∙ c.loop-sent.invariant.kept;
}

pub returns-in_err-send_one-clause-broken : goal.returns-in_err-send_one-clause-broken
returns-in_err-send_one-clause-broken g c =
    on_err _ _ (
    gives_then g.W.Ways.steps (port_of c.args.port.now) (port_of c.loop-sent.port) (port_of c.send_one.new.port) c.args.ways.now c.loop-sent.ways c.send_one.new.ways c.loop-sent.invariant.sent c.loop-sent.invariant.undone
    c.in_err-send_one.ensures.broken
    )
