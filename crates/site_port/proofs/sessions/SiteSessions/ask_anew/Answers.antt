use Rattle.std.proofs.Common.{◌≡◌, slice_get, slice_set, Option, Some, None, Ok, Err, inr, refl, sym, ap, subst, arith}
use Rattle.messages.specs.declared.event.ActorEvent.TheVariants.{Submit}
use Rattle.site_port.specs.Port.{PortValue, port_of, Holds, sessions_of}
use Rattle.site_port.proofs.Places.{session_of_place}
use Rattle.site_port.proofs.Going.{WentOn, declined_went, ends_went, holds_went, session_went}
use Rattle.site_port.proofs.Begun.{begun, holds_put, taken_told, taken_busy, taken_fault, on_told, waits_right}
use Rattle.messages.specs.declared.op.Op.{Op}
use Rattle.std.proofs.lemmas.Option.{slice_get_within}
use Rattle.site_port.proofs.sessions.SiteSessions.ask_anew.Goals as goal
use Rattle.site_port.proofs.sessions.SiteSessions.ask_anew.Goals.{in-Ok-None, in-Err}

-- src/sessions.rt:167:39
pub ask-requires-clause-session : goal.ask-requires-clause-session
ask-requires-clause-session g c =
    let at = subst (λ (p : PortValue). slice_get (sessions_of p.site.top p.site.dc) c.args.place ≡ Some c.args.node) (sym (ap port_of c.self.view_is)) c.requires.session in
    (session_of_place c.self.inside.site.site.top c.self.inside.site.site.dc c.args.place c.args.node at).0

-- src/sessions.rt:167:39
pub ask-requires-clause-here : goal.ask-requires-clause-here
ask-requires-clause-here g c =
    let at = subst (λ (p : PortValue). slice_get (sessions_of p.site.top p.site.dc) c.args.place ≡ Some c.args.node) (sym (ap port_of c.self.view_is)) c.requires.session in
    (session_of_place c.self.inside.site.site.top c.self.inside.site.site.dc c.args.place c.args.node at).1

-- src/sessions.rt:167:39
pub invariant_of-self : goal.invariant_of-self
invariant_of-self g c =
    let went = declined_went g.M.Machine.refuses c.self.inside.site.site c.ask.new.site.site c.args.node (Submit c.args.op) c.in_err-told.field-0.0 c.in_err-told.ensures.declined in
    subst (λ l. Holds c.ask.new.site.site c.self.inside.sessions.items c.self.inside.waiting.items l) (sym c.in_err-told.ensures.same)
    (holds_went c.self.inside.site.site c.ask.new.site.site c.self.inside.sessions.items c.self.inside.waiting.items c.self.inside.late.items c.self.inside.late.items went c.self.invariant
    (ends_went c.self.inside.site.site c.ask.new.site.site c.self.inside.late.items went c.self.invariant.ended))

-- src/sessions.rt:167:39
pub returns-in_err-told-clause-on : goal.returns-in_err-told-clause-on
returns-in_err-told-clause-on g c =
    subst (λ (p : PortValue). WentOn p.site c.ask.new.site.site) (ap port_of c.self.view_is)
    (declined_went g.M.Machine.refuses c.self.inside.site.site c.ask.new.site.site c.args.node (Submit c.args.op) c.in_err-told.field-0.0 c.in_err-told.ensures.declined)

-- src/sessions.rt:169:34
pub invariant_of-self-in-Ok-Some : goal.invariant_of-self-in-Ok-Some
invariant_of-self-in-Ok-Some g c =
    let b = begun g.M.Machine.refuses c.args.node c.self.inside.site.site c.args.op c.in_ok-told.field-0.waiting.number c.self.inside.late.items c.in_ok-told.field-0.told c.ask.new.site.site c.ask.new.late.items c.in_ok-told.ensures.begun.0 in
    holds_went c.self.inside.site.site c.ask.new.site.site c.self.inside.sessions.items c.self.inside.waiting.items c.self.inside.late.items c.ask.new.late.items b.on c.self.invariant (b.ends c.self.invariant.ended)

-- src/sessions.rt:169:34
pub returns-in-Ok-Some-clause-asks : goal.returns-in-Ok-Some-clause-asks
returns-in-Ok-Some-clause-asks g c =
    taken_told g.M.Machine.refuses c.args.place c.args.node c.in_ok-told.field-0.waiting.number _ (port_of c.args.self.now) _ c.args.op c.in_ok-told.field-0.told c.in-Ok-Some.outcome (ap port_of c.self.view_is)
    c.in_ok-told.ensures.begun.0 (subst (λ x. c.in_ok-told.field-0.told ≡ Ok x) c.in-Ok-Some.field-0-is c.in-Ok-Some.is) refl refl

-- src/sessions.rt:169:34
pub returns-in-Ok-Some-clause-ends : goal.returns-in-Ok-Some-clause-ends
returns-in-Ok-Some-clause-ends g c =
    let b = begun g.M.Machine.refuses c.args.node c.self.inside.site.site c.args.op c.in_ok-told.field-0.waiting.number c.self.inside.late.items c.in_ok-told.field-0.told c.ask.new.site.site c.ask.new.late.items c.in_ok-told.ensures.begun.0 in
    let told : c.in_ok-told.field-0.told ≡ Ok (Some c.in-Ok-Some.outcome) = subst (λ x. c.in_ok-told.field-0.told ≡ Ok x) c.in-Ok-Some.field-0-is c.in-Ok-Some.is in
    let at = subst (λ (p : PortValue). slice_get (sessions_of p.site.top p.site.dc) c.args.place ≡ Some c.args.node) (sym (ap port_of c.self.view_is)) c.requires.session in (
      c.args.node,
      c.in_ok-told.field-0.waiting.number,
      session_went c.self.inside.site.site c.ask.new.site.site c.args.place c.args.node b.on at,
      record { submitted = b.op; ended = b.its c.in-Ok-Some.outcome told },
      on_told c.in_ok-told.field-0.told c.in-Ok-Some.outcome _ told c.in_ok-told.ensures.sound,
    )

-- src/sessions.rt:169:34
pub returns-in-Ok-Some-clause-on : goal.returns-in-Ok-Some-clause-on
returns-in-Ok-Some-clause-on g c =
    let b = begun g.M.Machine.refuses c.args.node c.self.inside.site.site c.args.op c.in_ok-told.field-0.waiting.number c.self.inside.late.items c.in_ok-told.field-0.told c.ask.new.site.site c.ask.new.late.items c.in_ok-told.ensures.begun.0 in
    subst (λ (p : PortValue). WentOn p.site c.ask.new.site.site) (ap port_of c.self.view_is) b.on

-- src/sessions.rt:173:9
pub index_mut-requires : goal.index_mut-requires
index_mut-requires g c =
    let at = subst (λ (p : PortValue). slice_get p.waiting c.args.place ≡ Some None) (sym (ap port_of c.self.view_is)) c.requires.free in
    let lt = slice_get_within c.self.inside.waiting.items c.args.place None at in
    omega (arith, lt, c.self.inside.waiting.ok.0)

-- src/sessions.rt:157:5
pub invariant_of-self-2 : goal.invariant_of-self-2
invariant_of-self-2 g c =
    let b = begun g.M.Machine.refuses c.args.node c.self.inside.site.site c.args.op c.in_ok-told.field-0.waiting.number c.self.inside.late.items c.in_ok-told.field-0.told c.ask.new.site.site c.ask.new.late.items c.in_ok-told.ensures.begun.0 in
    let session = subst (λ (p : PortValue). slice_get (sessions_of p.site.top p.site.dc) c.args.place ≡ Some c.args.node) (sym (ap port_of c.self.view_is)) c.requires.session in
    let free = subst (λ (p : PortValue). slice_get p.waiting c.args.place ≡ Some None) (sym (ap port_of c.self.view_is)) c.requires.free in
    holds_put c.ask.new.site.site c.self.inside.sessions.items c.self.inside.waiting.items c.ask.new.late.items c.args.place c.args.node (Some c.in_ok-told.field-0.waiting) None
    (holds_went c.self.inside.site.site c.ask.new.site.site c.self.inside.sessions.items c.self.inside.waiting.items c.self.inside.late.items c.ask.new.late.items b.on c.self.invariant (b.ends c.self.invariant.ended))
    (subst (λ l. slice_get l c.args.place ≡ Some c.args.node) (sym c.self.invariant.sessions_are) session) free
    (waits_right c.ask.new.site.site c.args.node c.args.op c.in_ok-told.field-0.waiting c.in_ok-told.ensures.begun.1 b.op)

-- src/sessions.rt:157:5
pub returns-clause-asks : goal.returns-clause-asks
returns-clause-asks g c =
    let waits : slice_set c.self.inside.waiting.items c.args.place (Some c.in_ok-told.field-0.waiting) ≡ slice_set c.self.inside.waiting.items c.args.place (Some (record { number = c.in_ok-told.field-0.waiting.number; op = Some c.args.op }))
    = ap (λ (o : Option Op). slice_set c.self.inside.waiting.items c.args.place (Some (record { number = c.in_ok-told.field-0.waiting.number; op = o }))) c.in_ok-told.ensures.begun.1 in
    elim c.match-told.branch [
      | in-Ok-None w ↦ inr (taken_busy g.M.Machine.refuses c.args.place c.args.node c.in_ok-told.field-0.waiting.number _ (port_of c.args.self.now) _ c.args.op c.in_ok-told.field-0.told c.match-told.fault (ap port_of c.self.view_is)
          c.in_ok-told.ensures.begun.0 (subst (λ x. c.in_ok-told.field-0.told ≡ Ok x) w.in-Ok-None.field-0-is w.in-Ok-None.is) w.fault-is waits refl)
      | in-Err w ↦ inr (taken_fault g.M.Machine.refuses c.args.place c.args.node c.in_ok-told.field-0.waiting.number _ (port_of c.args.self.now) _ c.args.op c.in_ok-told.field-0.told c.match-told.fault (ap port_of c.self.view_is)
          c.in_ok-told.ensures.begun.0 (subst (λ x. c.in_ok-told.field-0.told ≡ Err x) (sym w.fault-is) w.in-Err.is) waits refl)
    ]

-- src/sessions.rt:157:5
pub returns-clause-on : goal.returns-clause-on
returns-clause-on g c =
    let b = begun g.M.Machine.refuses c.args.node c.self.inside.site.site c.args.op c.in_ok-told.field-0.waiting.number c.self.inside.late.items c.in_ok-told.field-0.told c.ask.new.site.site c.ask.new.late.items c.in_ok-told.ensures.begun.0 in
    subst (λ (p : PortValue). WentOn p.site c.ask.new.site.site) (ap port_of c.self.view_is) b.on
