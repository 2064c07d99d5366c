use Rattle.std.proofs.Common.{◌∙◌, ap, subst, Bool, Option}
use Rattle.logical_time.specs.declared.fault.Fault.{Fault}
use Rattle.readiness.specs.declared.connection.Stage.TheVariants.{Open}
use Rattle.readiness.specs.declared.connection.TheConstants.{LIMIT}
use Rattle.readiness.specs.Kept.{View, view}
use Rattle.readiness.specs.Turns.{AnswersNext}
use Rattle.readiness.proofs.Events.{answered, refused_fault}
use Rattle.readiness.proofs.Bounds.{answered_bounded, idle_bounded}
use Rattle.readiness.proofs.Turned.{turned-idle}
use Rattle.readiness.proofs.Silent.{says-same, says-then, refused_line, answered_line}
use Rattle.readiness.proofs.taking.go_on.Goals as goal

pub returns-then-answer_next-clause-turned : goal.returns-then-answer_next-clause-turned
returns-then-answer_next-clause-turned g c =
    let v = view g.L.ReadyLine.seen c.args.connection.now in
    let w = view g.L.ReadyLine.seen c.answer_next.new.connection in
    answered (g.P.SharedPort.steps c.args.place) c.args.stopped v (g.P.SharedPort.seen c.args.port.now) w (g.P.SharedPort.seen c.answer_next.new.port) c.requires.stage
    (subst (λ (b : Bool). AnswersNext (g.P.SharedPort.steps c.args.place) b v (g.P.SharedPort.seen c.args.port.now) w (g.P.SharedPort.seen c.answer_next.new.port)) c.if-answer_next.true c.answer_next.ensures.answers)

pub returns-then-answer_next-clause-bounded : goal.returns-then-answer_next-clause-bounded
returns-then-answer_next-clause-bounded g c le =
    let v = view g.L.ReadyLine.seen c.args.connection.now in
    let w = view g.L.ReadyLine.seen c.answer_next.new.connection in
    answered_bounded (g.P.SharedPort.steps c.args.place) LIMIT v (g.P.SharedPort.seen c.args.port.now) w (g.P.SharedPort.seen c.answer_next.new.port)
    (subst (λ (b : Bool). AnswersNext (g.P.SharedPort.steps c.args.place) b v (g.P.SharedPort.seen c.args.port.now) w (g.P.SharedPort.seen c.answer_next.new.port)) c.if-answer_next.true c.answer_next.ensures.answers) le

pub returns-in-Some-clause-turned : goal.returns-in-Some-clause-turned
returns-in-Some-clause-turned g c =
    let v = view g.L.ReadyLine.seen c.args.connection.now in
    let w = view g.L.ReadyLine.seen c.answer_next.new.connection in
    let x = view g.L.ReadyLine.seen c.refuse.new.connection in
    let idle = subst (λ (b : Bool). AnswersNext (g.P.SharedPort.steps c.args.place) b v (g.P.SharedPort.seen c.args.port.now) w (g.P.SharedPort.seen c.answer_next.new.port)) c.if-answer_next.false c.answer_next.ensures.answers in
    turned-idle (g.P.SharedPort.steps c.args.place) v (g.P.SharedPort.seen c.args.port.now) w (g.P.SharedPort.seen c.answer_next.new.port) x idle.0 idle.1
    (refused_fault c.in-Some.fault w x (ap (λ (u : View). u.stage) idle.0 ∙ c.requires.stage ∙ ap (λ (f : Option Fault). Open f) c.in-Some.is) (ap (λ (u : View). u.reader.held) idle.0 ∙ idle.2) c.refuse.ensures)

pub returns-in-None-clause-turned : goal.returns-in-None-clause-turned
returns-in-None-clause-turned g c =
    let v = view g.L.ReadyLine.seen c.args.connection.now in
    let w = view g.L.ReadyLine.seen c.answer_next.new.connection in
    let idle = subst (λ (b : Bool). AnswersNext (g.P.SharedPort.steps c.args.place) b v (g.P.SharedPort.seen c.args.port.now) w (g.P.SharedPort.seen c.answer_next.new.port)) c.if-answer_next.false c.answer_next.ensures.answers in
    turned-idle (g.P.SharedPort.steps c.args.place) v (g.P.SharedPort.seen c.args.port.now) w (g.P.SharedPort.seen c.answer_next.new.port) (view g.L.ReadyLine.seen c.hear.new.connection) idle.0 idle.1 c.hear.ensures.keeps

pub returns-in-Some-clause-bounded : goal.returns-in-Some-clause-bounded
returns-in-Some-clause-bounded g c le =
    let v = view g.L.ReadyLine.seen c.args.connection.now in
    let w = view g.L.ReadyLine.seen c.answer_next.new.connection in
    let x = view g.L.ReadyLine.seen c.refuse.new.connection in
    let idle = subst (λ (b : Bool). AnswersNext (g.P.SharedPort.steps c.args.place) b v (g.P.SharedPort.seen c.args.port.now) w (g.P.SharedPort.seen c.answer_next.new.port)) c.if-answer_next.false c.answer_next.ensures.answers in
    idle_bounded LIMIT v w x idle.0 (ap (λ (u : View). u.waiting) c.refuse.ensures.2) le

pub returns-in-None-clause-bounded : goal.returns-in-None-clause-bounded
returns-in-None-clause-bounded g c le =
    let v = view g.L.ReadyLine.seen c.args.connection.now in
    let w = view g.L.ReadyLine.seen c.answer_next.new.connection in
    let idle = subst (λ (b : Bool). AnswersNext (g.P.SharedPort.steps c.args.place) b v (g.P.SharedPort.seen c.args.port.now) w (g.P.SharedPort.seen c.answer_next.new.port)) c.if-answer_next.false c.answer_next.ensures.answers in
    idle_bounded LIMIT v w (view g.L.ReadyLine.seen c.hear.new.connection) idle.0 c.hear.ensures.waiting le

pub returns-then-answer_next-clause-silent : goal.returns-then-answer_next-clause-silent
returns-then-answer_next-clause-silent g c =
    let v = view g.L.ReadyLine.seen c.args.connection.now in
    let w = view g.L.ReadyLine.seen c.answer_next.new.connection in
    says-same v w (answered_line (g.P.SharedPort.steps c.args.place) c.answer_next.result v (g.P.SharedPort.seen c.args.port.now) w (g.P.SharedPort.seen c.answer_next.new.port) c.answer_next.ensures.answers)

pub returns-in-Some-clause-silent : goal.returns-in-Some-clause-silent
returns-in-Some-clause-silent g c =
    let v = view g.L.ReadyLine.seen c.args.connection.now in
    let w = view g.L.ReadyLine.seen c.answer_next.new.connection in
    let x = view g.L.ReadyLine.seen c.refuse.new.connection in
    says-same v x (refused_line c.in-Some.fault w x c.refuse.ensures ∙ answered_line (g.P.SharedPort.steps c.args.place) c.answer_next.result v (g.P.SharedPort.seen c.args.port.now) w (g.P.SharedPort.seen c.answer_next.new.port) c.answer_next.ensures.answers)

pub returns-in-None-clause-silent : goal.returns-in-None-clause-silent
returns-in-None-clause-silent g c =
    let v = view g.L.ReadyLine.seen c.args.connection.now in
    let w = view g.L.ReadyLine.seen c.answer_next.new.connection in
    let x = view g.L.ReadyLine.seen c.hear.new.connection in
    says-then v w x (says-same v w (answered_line (g.P.SharedPort.steps c.args.place) c.answer_next.result v (g.P.SharedPort.seen c.args.port.now) w (g.P.SharedPort.seen c.answer_next.new.port) c.answer_next.ensures.answers)) c.hear.ensures.silent
