use Rattle.readiness.specs.declared.connection.TheConstants.{LIMIT}
use Rattle.readiness.proofs.Positions.{chain_none, settled_chain}
use Rattle.readiness.proofs.Lives.{ran-arrived, ran-turned, ran-written, ran-left, arrived-bounded, left-bounded}
use Rattle.readiness.proofs.run.act_on.Goals as goal

pub returns-in_ok-arrive-in-Arrives-clause-ran : goal.returns-in_ok-arrive-in-Arrives-clause-ran
returns-in_ok-arrive-in-Arrives-clause-ran g c lines p h =
    rw c.in-Arrives.is (ran-arrived g.L.ReadyLine.seen g.P.SharedPort.steps lines c.args.run.now.gone.items p c.args.run.now.places.places.items c.arrive.new.places.places.items (g.P.SharedPort.seen c.args.port.now) c.in-Arrives.line c.in_ok-arrive-in-Arrives.ensures h)

pub returns-in_ok-arrive-in-Arrives-clause-bounded : goal.returns-in_ok-arrive-in-Arrives-clause-bounded
returns-in_ok-arrive-in-Arrives-clause-bounded g c =
    arrived-bounded LIMIT g.L.ReadyLine.seen c.in-Arrives.line c.args.run.now.places.places.items c.arrive.new.places.places.items c.in_ok-arrive-in-Arrives.ensures

pub returns-in_ok-settle-in-Ready-clause-ran : goal.returns-in_ok-settle-in-Ready-clause-ran
returns-in_ok-settle-in-Ready-clause-ran g c lines p h =
    ran-written g.L.ReadyLine.seen g.P.SharedPort.steps _ c.args.run.now.gone.items p c.listen_at.new.places.places.items c.reply_at-left.new.places.places.items (g.P.SharedPort.seen c.listen_at.new.port) (g.P.SharedPort.seen c.settle.new.self) c.settle.ensures.asks_nothing c.reply_at-left.ensures.written
    (rw c.in-Ready.is (ran-turned g.L.ReadyLine.seen g.P.SharedPort.steps lines c.args.run.now.gone.items p c.args.run.now.places.places.items c.listen_at.new.places.places.items (g.P.SharedPort.seen c.args.port.now) (g.P.SharedPort.seen c.listen_at.new.port) c.in-Ready.place c.listen_at.ensures.turned h))

pub returns-in_ok-leave-in-Leaves-clause-ran : goal.returns-in_ok-leave-in-Leaves-clause-ran
returns-in_ok-leave-in-Leaves-clause-ran g c lines p h =
    rw c.in-Leaves.is (ran-left g.L.ReadyLine.seen g.P.SharedPort.steps lines c.args.run.now.gone.items c.leave.new.run.gone.items p c.args.run.now.places.places.items c.leave.new.run.places.places.items (g.P.SharedPort.seen c.args.port.now) c.in-Leaves.place c.in_ok-leave-in-Leaves.ensures h)

pub returns-in_ok-leave-in-Leaves-clause-bounded : goal.returns-in_ok-leave-in-Leaves-clause-bounded
returns-in_ok-leave-in-Leaves-clause-bounded g c =
    left-bounded LIMIT g.L.ReadyLine.seen c.in-Leaves.place c.args.run.now.places.places.items c.leave.new.run.places.places.items c.args.run.now.gone.items c.leave.new.run.gone.items c.in_ok-leave-in-Leaves.ensures

pub returns-in_ok-settle-in-Ready-clause-chain : goal.returns-in_ok-settle-in-Ready-clause-chain
returns-in_ok-settle-in-Ready-clause-chain g c = settled_chain g.L.ReadyLine.seen g.P.SharedPort.steps c.in-Ready.place c.args.run.now.places.places.items (g.P.SharedPort.seen c.args.port.now) c.listen_at.new.places.places.items (g.P.SharedPort.seen c.listen_at.new.port) (g.P.SharedPort.seen c.settle.new.self) c.settle.ensures.asks_nothing c.listen_at.ensures.turned

pub returns-in_err-settle-in-Ready-clause-chain : goal.returns-in_err-settle-in-Ready-clause-chain
returns-in_err-settle-in-Ready-clause-chain g c = settled_chain g.L.ReadyLine.seen g.P.SharedPort.steps c.in-Ready.place c.args.run.now.places.places.items (g.P.SharedPort.seen c.args.port.now) c.listen_at.new.places.places.items (g.P.SharedPort.seen c.listen_at.new.port) (g.P.SharedPort.seen c.settle.new.self) c.settle.ensures.asks_nothing c.listen_at.ensures.turned

pub returns-in_ok-arrive-in-Arrives-clause-chain : goal.returns-in_ok-arrive-in-Arrives-clause-chain
returns-in_ok-arrive-in-Arrives-clause-chain g c = chain_none g.P.SharedPort.steps (g.P.SharedPort.seen c.args.port.now)

pub returns-in_err-arrive-in-Arrives-clause-chain : goal.returns-in_err-arrive-in-Arrives-clause-chain
returns-in_err-arrive-in-Arrives-clause-chain g c = chain_none g.P.SharedPort.steps (g.P.SharedPort.seen c.args.port.now)

pub returns-in_ok-leave-in-Leaves-clause-chain : goal.returns-in_ok-leave-in-Leaves-clause-chain
returns-in_ok-leave-in-Leaves-clause-chain g c = chain_none g.P.SharedPort.steps (g.P.SharedPort.seen c.args.port.now)

pub returns-in_err-leave-in-Leaves-clause-chain : goal.returns-in_err-leave-in-Leaves-clause-chain
returns-in_err-leave-in-Leaves-clause-chain g c = chain_none g.P.SharedPort.steps (g.P.SharedPort.seen c.args.port.now)
