use Rattle.std.proofs.Common.{[], ◌≡◌, ◌∙◌, ap, refl, sym, subst, false, true}
use Rattle.std.proofs.Common.{rules}
use Rattle.logical_time.specs.declared.fault.Fault.TheVariants.{Memory}
use Rattle.site.specs.Story.{given, may_come}
use Rattle.site_port.specs.Port.{PortValue, port_of}
use Rattle.ways.specs.Crossings.{Came, Refused, Nothing, came_by}
use Rattle.hosting.specs.Rounds.{IsComing}
use Rattle.hosting.proofs.Passing.{passed_exchange, passed_receipt, passed_refusal, may_not_come, hearing_gives_none, leaves_one, leaves_then}
use Rattle.hosting.proofs.crossing.hear_one.Goals as goal

pub returns-in_default : goal.returns-in_default
returns-in_default g c = record {
  heard = passed_exchange IsComing g.W.Ways.steps [] (port_of c.args.port.now) c.args.ways.now c.next.new.self tt (subst (λ z. g.W.Ways.steps c.args.ways.now (came_by z) c.next.new.self) c.in_default.is c.in_ok-from.ensures.came);
  silent = leaves_one g.W.Ways.steps c.args.ways.now c.next.new.self Nothing tt (subst (λ z. g.W.Ways.steps c.args.ways.now (came_by z) c.next.new.self) c.in_default.is c.in_ok-from.ensures.came);
  ungiven = refl;
  kept = refl;
}

pub returns-in-Ok : goal.returns-in-Ok
returns-in-Ok g c = record {
  heard = passed_receipt g.W.Ways.steps (port_of c.args.port.now) (port_of c.hear.new.self) c.args.ways.now c.next.new.self c.in-Some.from c.in-Some.envelope c.in-Ok.ensures.heard c.in-Ok.ensures.allowed.1
      (subst (λ z. g.W.Ways.steps c.args.ways.now (came_by z) c.next.new.self) c.in-Some.is c.in_ok-from.ensures.came);
  silent = leaves_one g.W.Ways.steps c.args.ways.now c.next.new.self (Came c.in-Some.from c.in-Some.envelope) tt (subst (λ z. g.W.Ways.steps c.args.ways.now (came_by z) c.next.new.self) c.in-Some.is c.in_ok-from.ensures.came);
  ungiven = ap (λ (p : PortValue). given p.site.story) c.in-Ok.ensures.heard ∙ hearing_gives_none c.args.port.now.site.site.story c.in-Some.from c.in-Some.envelope;
  kept = c.hear.ensures.kept;
}

pub returns-else-not-is_sound : goal.returns-else-not-is_sound
returns-else-not-is_sound g c =
    let same = c.in-Err.ensures.same in
    let other : c.in-Err.fault ≡ Memory → ⊥ = λ is. search rules in
    let good : c.args.port.now.site.site.sound ≡ true =
    sym (ap (λ (p : PortValue). p.site.sound) same) ∙ (sym (ap (λ s. s.site.sound) c.site.ensures) ∙ (sym c.is_sound.ensures.value ∙ c.if-not-is_sound.false)) in
    let stranger : may_come c.args.port.now.site.site.top c.args.port.now.site.site.dc c.in-Some.from c.in-Some.envelope ≡ false =
    may_not_come c.args.port.now.site.site.sound (may_come c.args.port.now.site.site.top c.args.port.now.site.site.dc c.in-Some.from c.in-Some.envelope) c.in-Err.fault c.in-Err.ensures.fault other good in
    record {
      heard = passed_refusal g.W.Ways.steps (port_of c.args.port.now) (port_of c.hear.new.self) c.args.ways.now c.next.new.self c.refuse.new.self c.in-Some.from c.in-Some.envelope same stranger
          (subst (λ z. g.W.Ways.steps c.args.ways.now (came_by z) c.next.new.self) c.in-Some.is c.in_ok-from.ensures.came) c.refuse.ensures;
      silent = leaves_then g.W.Ways.steps c.args.ways.now c.next.new.self c.refuse.new.self
          (leaves_one g.W.Ways.steps c.args.ways.now c.next.new.self (Came c.in-Some.from c.in-Some.envelope) tt (subst (λ z. g.W.Ways.steps c.args.ways.now (came_by z) c.next.new.self) c.in-Some.is c.in_ok-from.ensures.came))
          (leaves_one g.W.Ways.steps c.next.new.self c.refuse.new.self (Refused c.in-Some.from) tt c.refuse.ensures);
      ungiven = ap (λ (p : PortValue). given p.site.story) same;
      kept = c.hear.ensures.kept;
    }

pub returns-in_err-from-clause-silent : goal.returns-in_err-from-clause-silent
returns-in_err-from-clause-silent g c = leaves_one g.W.Ways.steps c.args.ways.now c.next.new.self Nothing tt c.in_err-from.ensures.none

pub returns-then-eq-clause-silent : goal.returns-then-eq-clause-silent
returns-then-eq-clause-silent g c =
    leaves_one g.W.Ways.steps c.args.ways.now c.next.new.self (Came c.in-Some.from c.in-Some.envelope) tt (subst (λ z. g.W.Ways.steps c.args.ways.now (came_by z) c.next.new.self) c.in-Some.is c.in_ok-from.ensures.came)
