use Rattle.std.proofs.Common.{◌≡◌, ap, subst, List, ℕ}
use Rattle.readiness.specs.Kept.{View, view}
use Rattle.readiness.specs.Turns.{Turned, Keeps}
use Rattle.readiness.proofs.Events.{refused_memory}
use Rattle.readiness.proofs.Turned.{turned-none, turned-keeps}
use Rattle.logical_time.specs.declared.fault.Fault.TheVariants.{Memory}
use Rattle.readiness.proofs.Silent.{says-same, refused_line}
use Rattle.readiness.proofs.taking.step_open.Goals as goal

pub returns-then-waits-gt-LIMIT-clause-turned : goal.returns-then-waits-gt-LIMIT-clause-turned
returns-then-waits-gt-LIMIT-clause-turned g c = turned-none (g.P.SharedPort.steps c.args.place) (view g.L.ReadyLine.seen c.args.connection.now) (g.P.SharedPort.seen c.args.port.now)

pub returns-in-Ok-clause-turned : goal.returns-in-Ok-clause-turned
returns-in-Ok-clause-turned g c =
    let v = view g.L.ReadyLine.seen c.args.connection.now in
    let same : record { line = v.line; reader = v.reader; waiting = c.reserve.new.self.items; stage = v.stage } ≡ v = ap (λ (t : List ℕ). record { line = v.line; reader = v.reader; waiting = t; stage = v.stage }) c.reserve.ensures.items in
    subst (λ (u : View). Turned (g.P.SharedPort.steps c.args.place) u (g.P.SharedPort.seen c.args.port.now) (view g.L.ReadyLine.seen c.go_on.new.connection) (g.P.SharedPort.seen c.go_on.new.port)) same c.go_on.ensures.turned

pub returns-in-Err-clause-turned : goal.returns-in-Err-clause-turned
returns-in-Err-clause-turned g c =
    let v = view g.L.ReadyLine.seen c.args.connection.now in
    let u : View = record { line = v.line; reader = v.reader; waiting = c.reserve.new.self.items; stage = v.stage } in
    let x = view g.L.ReadyLine.seen c.refuse.new.connection in
    let same : u ≡ v = ap (λ (t : List ℕ). record { line = v.line; reader = v.reader; waiting = t; stage = v.stage }) c.reserve.ensures.items in
    turned-keeps (g.P.SharedPort.steps c.args.place) v (g.P.SharedPort.seen c.args.port.now) x (subst (λ (y : View). Keeps y x) same (refused_memory c.args.stopped u x c.requires.stage c.refuse.ensures))

pub returns-in-Err-clause-silent : goal.returns-in-Err-clause-silent
returns-in-Err-clause-silent g c =
    let v = view g.L.ReadyLine.seen c.args.connection.now in
    let u : View = record { line = v.line; reader = v.reader; waiting = c.reserve.new.self.items; stage = v.stage } in
    let x = view g.L.ReadyLine.seen c.refuse.new.connection in
    says-same v x (refused_line Memory u x c.refuse.ensures)
