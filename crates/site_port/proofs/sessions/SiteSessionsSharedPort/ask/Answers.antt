use Rattle.std.proofs.Common.{◌≡◌, ◌∙◌, ◌<◌, ◌≤◌, length, slice_get, Some, refl, sym, ap, subst, arith}
use Rattle.site.proofs.Lists.{get_set}
use Rattle.site_port.specs.Port.{port_of}
use Rattle.site_port.proofs.Serving.{at_place, holds_taken, holds_back, step_past, step_free, step_open, step_told, step_other}
use Rattle.site_port.proofs.sessions.SiteSessionsSharedPort.ask.Goals as goal

pub returns-then-place-len-clause-step : goal.returns-then-place-len-clause-step
returns-then-place-len-clause-step g c =
    let past : length c.self.inside.sessions.items ≤ c.args.place = omega (arith, c.if-place-len.true, c.len.ensures, c.self.inside.sessions.ok.0) in
    step_past g.M.Machine.refuses c.args.place _ (port_of c.args.self.now) c.args.op c.self.inside.sessions.items (ap port_of c.self.view_is) c.self.invariant past

pub ask_anew-requires-clause-session : goal.ask_anew-requires-clause-session
ask_anew-requires-clause-session g c =
    let short : c.args.place < length c.self.inside.sessions.items = omega (arith, c.if-place-len.false, c.len.ensures, c.self.inside.sessions.ok.0) in
    let session = at_place c.self.inside.sessions.items c.args.place c.index-node.result.now c.index-node.result.now short c.index-node.ensures refl in
    subst (λ l. slice_get l c.args.place ≡ Some c.index-node.result.now) c.self.invariant.sessions_are session

pub ask_anew-requires-clause-free : goal.ask_anew-requires-clause-free
ask_anew-requires-clause-free g c =
    let short : c.args.place < length c.self.inside.sessions.items = omega (arith, c.if-place-len.false, c.len.ensures, c.self.inside.sessions.ok.0) in
    let within : c.args.place < length c.self.inside.waiting.items = subst (λ n. c.args.place < n) (sym c.self.invariant.places) short in
    let there = at_place c.self.inside.waiting.items c.args.place c.index_mut.result.now c.take.result within c.index_mut.ensures.value c.take.ensures.value in
    get_set c.self.inside.waiting.items c.args.place c.take.new.self c.take.result there ∙ ap Some c.take.ensures.after

pub returns-in_default-clause-step : goal.returns-in_default-clause-step
returns-in_default-clause-step g c =
    let short : c.args.place < length c.self.inside.sessions.items = omega (arith, c.if-place-len.false, c.len.ensures, c.self.inside.sessions.ok.0) in
    let session = at_place c.self.inside.sessions.items c.args.place c.index-node.result.now c.index-node.result.now short c.index-node.ensures refl in
    let within : c.args.place < length c.self.inside.waiting.items = subst (λ n. c.args.place < n) (sym c.self.invariant.places) short in
    let there = at_place c.self.inside.waiting.items c.args.place c.index_mut.result.now c.take.result within c.index_mut.ensures.value c.take.ensures.value in
    step_free g.M.Machine.refuses c.args.place _ (port_of c.args.self.now) c.args.op c.self.inside.sessions.items (ap port_of c.self.view_is) c.self.invariant c.index-node.result.now session
    c.take.result c.take.new.self c.ask_anew.result (port_of c.ask_anew.new.self) there c.in_default.is c.take.ensures.after c.ask_anew.ensures.asks c.ask_anew.ensures.ends c.ask_anew.ensures.on

pub invariant_of-self-in-Some-take_end : goal.invariant_of-self-in-Some-take_end
invariant_of-self-in-Some-take_end g c =
    let short : c.args.place < length c.self.inside.sessions.items = omega (arith, c.if-place-len.false, c.len.ensures, c.self.inside.sessions.ok.0) in
    let session = at_place c.self.inside.sessions.items c.args.place c.index-node.result.now c.index-node.result.now short c.index-node.ensures refl in
    let within : c.args.place < length c.self.inside.waiting.items = subst (λ n. c.args.place < n) (sym c.self.invariant.places) short in
    let there = at_place c.self.inside.waiting.items c.args.place c.index_mut.result.now c.take.result within c.index_mut.ensures.value c.take.ensures.value in
    holds_taken c.self.inside.site.site c.self.inside.sessions.items c.self.inside.waiting.items c.self.inside.late.items c.take_end.new.late.items c.args.place c.index-node.result.now c.in-Some.waiting.number c.in-Some-take_end.outcome
    c.take.new.self c.take.result c.self.invariant session there c.take.ensures.after c.in-Some-take_end.ensures

pub invariant_of-self-in_default-take_end : goal.invariant_of-self-in_default-take_end
invariant_of-self-in_default-take_end g c =
    let short : c.args.place < length c.self.inside.sessions.items = omega (arith, c.if-place-len.false, c.len.ensures, c.self.inside.sessions.ok.0) in
    let within : c.args.place < length c.self.inside.waiting.items = subst (λ n. c.args.place < n) (sym c.self.invariant.places) short in
    let there = at_place c.self.inside.waiting.items c.args.place c.index_mut.result.now c.take.result within c.index_mut.ensures.value c.take.ensures.value in
    holds_back c.self.inside.site.site c.self.inside.sessions.items c.self.inside.waiting.items c.self.inside.late.items c.take_end.new.late.items c.args.place c.index-node.result.now c.in-Some.waiting.number
    c.take.new.self (Some c.in-Some.waiting) c.self.invariant (there ∙ ap Some c.in-Some.is) c.in_default-take_end.ensures

pub returns-in_default-take_end-clause-step : goal.returns-in_default-take_end-clause-step
returns-in_default-take_end-clause-step g c =
    let short : c.args.place < length c.self.inside.sessions.items = omega (arith, c.if-place-len.false, c.len.ensures, c.self.inside.sessions.ok.0) in
    let session = at_place c.self.inside.sessions.items c.args.place c.index-node.result.now c.index-node.result.now short c.index-node.ensures refl in
    let within : c.args.place < length c.self.inside.waiting.items = subst (λ n. c.args.place < n) (sym c.self.invariant.places) short in
    let there = at_place c.self.inside.waiting.items c.args.place c.index_mut.result.now c.take.result within c.index_mut.ensures.value c.take.ensures.value in
    step_open g.M.Machine.refuses c.args.place _ (port_of c.args.self.now) c.args.op c.self.inside.sessions.items (ap port_of c.self.view_is) c.self.invariant c.index-node.result.now session
    c.take.result c.take.new.self c.in-Some.waiting c.take_end.new.late.items there c.in-Some.is c.in_default-take_end.ensures

pub returns-then-is_for-clause-step : goal.returns-then-is_for-clause-step
returns-then-is_for-clause-step g c =
    let short : c.args.place < length c.self.inside.sessions.items = omega (arith, c.if-place-len.false, c.len.ensures, c.self.inside.sessions.ok.0) in
    let session = at_place c.self.inside.sessions.items c.args.place c.index-node.result.now c.index-node.result.now short c.index-node.ensures refl in
    let within : c.args.place < length c.self.inside.waiting.items = subst (λ n. c.args.place < n) (sym c.self.invariant.places) short in
    let there = at_place c.self.inside.waiting.items c.args.place c.index_mut.result.now c.take.result within c.index_mut.ensures.value c.take.ensures.value in
    step_told g.M.Machine.refuses c.args.place _ (port_of c.args.self.now) c.args.op c.self.inside.sessions.items (ap port_of c.self.view_is) c.self.invariant c.index-node.result.now session
    c.take.result c.take.new.self c.in-Some.waiting c.in-Some-take_end.outcome c.take_end.new.late.items there c.in-Some.is c.take.ensures.after c.in-Some-take_end.ensures (c.is_for.ensures.yes c.if-is_for.true)
    (sym c.is_sound.ensures.value ∙ c.if-not-is_sound.false)

pub ask_anew-requires-2-clause-session : goal.ask_anew-requires-2-clause-session
ask_anew-requires-2-clause-session g c =
    let short : c.args.place < length c.self.inside.sessions.items = omega (arith, c.if-place-len.false, c.len.ensures, c.self.inside.sessions.ok.0) in
    let session = at_place c.self.inside.sessions.items c.args.place c.index-node.result.now c.index-node.result.now short c.index-node.ensures refl in
    subst (λ l. slice_get l c.args.place ≡ Some c.index-node.result.now) c.self.invariant.sessions_are session

pub ask_anew-requires-2-clause-free : goal.ask_anew-requires-2-clause-free
ask_anew-requires-2-clause-free g c =
    let short : c.args.place < length c.self.inside.sessions.items = omega (arith, c.if-place-len.false, c.len.ensures, c.self.inside.sessions.ok.0) in
    let within : c.args.place < length c.self.inside.waiting.items = subst (λ n. c.args.place < n) (sym c.self.invariant.places) short in
    let there = at_place c.self.inside.waiting.items c.args.place c.index_mut.result.now c.take.result within c.index_mut.ensures.value c.take.ensures.value in
    get_set c.self.inside.waiting.items c.args.place c.take.new.self c.take.result there ∙ ap Some c.take.ensures.after

pub returns-clause-step : goal.returns-clause-step
returns-clause-step g c =
    let short : c.args.place < length c.self.inside.sessions.items = omega (arith, c.if-place-len.false, c.len.ensures, c.self.inside.sessions.ok.0) in
    let session = at_place c.self.inside.sessions.items c.args.place c.index-node.result.now c.index-node.result.now short c.index-node.ensures refl in
    let within : c.args.place < length c.self.inside.waiting.items = subst (λ n. c.args.place < n) (sym c.self.invariant.places) short in
    let there = at_place c.self.inside.waiting.items c.args.place c.index_mut.result.now c.take.result within c.index_mut.ensures.value c.take.ensures.value in
    step_other g.M.Machine.refuses c.args.place _ (port_of c.args.self.now) c.args.op c.self.inside.sessions.items (ap port_of c.self.view_is) c.self.invariant c.index-node.result.now session
    c.take.result c.take.new.self c.in-Some.waiting c.in-Some-take_end.outcome c.take_end.new.late.items c.ask_anew-2.result (port_of c.ask_anew-2.new.self) there c.in-Some.is c.take.ensures.after c.in-Some-take_end.ensures
    (c.is_for.ensures.no c.if-is_for.false) c.ask_anew-2.ensures.asks c.ask_anew-2.ensures.ends c.ask_anew-2.ensures.on
