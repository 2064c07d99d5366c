use Rattle.std.proofs.Common.{◌∙◌, ◌<◌, ◌≤◌, ◌-◌, refl, subst, sym}
use Rattle.world.specs.declared.run_event.RunEvent.TheVariants.{Deliver}
use Rattle.world.specs.Run.{run, step}
use Rattle.world.specs.World.{IsRefusedAs}
use Rattle.world.specs.Refusals.{refusal_of}
use Rattle.world.proofs.in_code.Taking.{place_of, place_below}
use Rattle.present.specs.Past.{next_number}
use Rattle.present.specs.Waiting.{waiting_of}
use Rattle.present.specs.Present.{IsEnd}
use Rattle.present.proofs.Going.{shard_delivered, session_heard, shard_refuses, session_refuses, still_holds}
use Rattle.present.proofs.Waits.{back_again}
use Rattle.present.proofs.actors.Actors.deliver.Goals as goal

pub returns-in-Ok-clause-ok : goal.returns-in-Ok-clause-ok
returns-in-Ok-clause-ok c =
    let lt = subst (λ z. c.from-place.result < z) (c.len-shards.ensures ∙ c.args.self.now.shards.ok.0) c.if-place-shards.true in
    λ top events h.
    shard_delivered top events c.args.self.now _ h c.in-Some.envelope c.take.new.self c.in-Some.ensures.some c.from-place.result (sym (c.from-place.ensures ∙ c.get.ensures)) lt c.in-Ok.ensures.ok refl refl refl refl

pub returns-in-Err-clause-refused : goal.returns-in-Err-clause-refused
returns-in-Err-clause-refused c =
    let lt = subst (λ z. c.from-place.result < z) (c.len-shards.ensures ∙ c.args.self.now.shards.ok.0) c.if-place-shards.true in
    λ top events h.
    subst (IsRefusedAs (refusal_of top (run top events) (Deliver (next_number events)))) (sym c.put_back.ensures.fault)
    (shard_refuses top events c.args.self.now c.args.self.now h c.in-Some.envelope c.take.new.self c.in-Some.ensures.some c.from-place.result c.in-Err.refused.fault (sym (c.from-place.ensures ∙ c.get.ensures)) lt c.in-Err.ensures.refused)

pub returns-in-Err-clause-same : goal.returns-in-Err-clause-same
returns-in-Err-clause-same c =
    λ top events h.
    still_holds top events c.args.self.now _ h top refl refl (c.in-Err.ensures.same top (run top events).shards h.present.shards) refl
    (back_again c.take.new.self.held c.take.new.self.turn.items c.take.new.self.sent.sent c.hand_over.new.sent.sent _ c.in-Some.envelope _ _ c.in-Some.ensures.some c.in-Err.ensures.back c.in-Err.ensures.unsent c.put_back.ensures.waits)

pub returns-in-Ok-hear-clause-ok : goal.returns-in-Ok-hear-clause-ok
returns-in-Ok-hear-clause-ok c =
    let same = c.from-place.ensures ∙ c.get.ensures in
    let len = c.len-shards.ensures ∙ c.args.self.now.shards.ok.0 in
    let le = subst (λ z. z ≤ c.in-Some.envelope.to) len (subst (λ z. c.len-shards.result ≤ z) same c.if-place-shards.false) in
    let to = place_of c.in-Some.envelope.to c.from-place.result c.len-shards.result _ same len le in
    let lt = place_below c.in-Some.envelope.to _ _ _ to (c.requires.addressed c.in-Some.envelope (waiting_of c.take.new.self) c.in-Some.ensures.some) in
    λ top events h.
    let r = session_heard top events c.args.self.now _ h c.in-Some.envelope c.take.new.self c.in-Some.ensures.some (c.from-place.result - c.len-shards.result) c.in-Ok-hear.finished to lt c.in-Ok-hear.ensures.ok c.in-Ok-hear.ensures.count refl refl refl refl in
    (r.0, subst (IsEnd (run top events) (step top (run top events) (Deliver (next_number events)))) (sym c.ended.ensures) r.1)

pub returns-in-Err-hear-clause-refused : goal.returns-in-Err-hear-clause-refused
returns-in-Err-hear-clause-refused c =
    let same = c.from-place.ensures ∙ c.get.ensures in
    let len = c.len-shards.ensures ∙ c.args.self.now.shards.ok.0 in
    let le = subst (λ z. z ≤ c.in-Some.envelope.to) len (subst (λ z. c.len-shards.result ≤ z) same c.if-place-shards.false) in
    let to = place_of c.in-Some.envelope.to c.from-place.result c.len-shards.result _ same len le in
    let lt = place_below c.in-Some.envelope.to _ _ _ to (c.requires.addressed c.in-Some.envelope (waiting_of c.take.new.self) c.in-Some.ensures.some) in
    λ top events h.
    subst (IsRefusedAs (refusal_of top (run top events) (Deliver (next_number events)))) (sym c.put_back-in-Err-hear.ensures.fault)
    (session_refuses top events c.args.self.now c.args.self.now h c.in-Some.envelope c.take.new.self c.in-Some.ensures.some (c.from-place.result - c.len-shards.result) c.in-Err-hear.refused.fault to lt c.in-Err-hear.ensures.refused)

pub returns-in-Err-hear-clause-same : goal.returns-in-Err-hear-clause-same
returns-in-Err-hear-clause-same c =
    λ top events h.
    still_holds top events c.args.self.now _ h top refl refl h.present.shards c.in-Err-hear.ensures.same
    (back_again c.take.new.self.held c.take.new.self.turn.items c.take.new.self.sent.sent c.hear.new.sent.sent _ c.in-Some.envelope _ _ c.in-Some.ensures.some c.in-Err-hear.ensures.back c.in-Err-hear.ensures.unsent c.put_back-in-Err-hear.ensures.waits)
