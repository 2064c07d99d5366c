use Rattle.std.proofs.Common.{◌∙◌, refl}
use Rattle.readiness.specs.Kept.{view}
use Rattle.readiness.proofs.Turned.{turned-none, turned-then}
use Rattle.readiness.proofs.Silent.{says-none, says-then}
use Rattle.readiness.proofs.taking.take_in.Goals as goal

pub loop-init : goal.loop-init
loop-init g c = record { turned = turned-none (g.P.SharedPort.steps c.args.place) (view g.L.ReadyLine.seen c.args.connection.now) (g.P.SharedPort.seen c.args.port.now); bounded = λ h. h; silent = says-none (view g.L.ReadyLine.seen c.args.connection.now); keeps_none = refl }

pub returns-in-Some-clause-turned : goal.returns-in-Some-clause-turned
returns-in-Some-clause-turned g c =
    turned-then (g.P.SharedPort.steps c.args.place) (view g.L.ReadyLine.seen c.args.connection.now) (g.P.SharedPort.seen c.args.port.now) (view g.L.ReadyLine.seen c.loop.connection) (g.P.SharedPort.seen c.loop.port) (view g.L.ReadyLine.seen c.step.new.connection) (g.P.SharedPort.seen c.step.new.port) c.loop.invariant.turned c.step.ensures.turned

pub loop-preserved : goal.loop-preserved
loop-preserved g c = record {
  turned = turned-then (g.P.SharedPort.steps c.args.place) (view g.L.ReadyLine.seen c.args.connection.now) (g.P.SharedPort.seen c.args.port.now) (view g.L.ReadyLine.seen c.loop.connection) (g.P.SharedPort.seen c.loop.port) (view g.L.ReadyLine.seen c.step.new.connection) (g.P.SharedPort.seen c.step.new.port) c.loop.invariant.turned c.step.ensures.turned;
  bounded = λ h. c.step.ensures.bounded (c.loop.invariant.bounded h);
  silent = says-then (view g.L.ReadyLine.seen c.args.connection.now) (view g.L.ReadyLine.seen c.loop.connection) (view g.L.ReadyLine.seen c.step.new.connection) c.loop.invariant.silent c.step.ensures.silent;
  keeps_none = c.step.ensures.keeps_none ∙ c.loop.invariant.keeps_none;
}

pub returns-in-Some-clause-silent : goal.returns-in-Some-clause-silent
returns-in-Some-clause-silent g c = says-then (view g.L.ReadyLine.seen c.args.connection.now) (view g.L.ReadyLine.seen c.loop.connection) (view g.L.ReadyLine.seen c.step.new.connection) c.loop.invariant.silent c.step.ensures.silent
