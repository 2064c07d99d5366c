use Rattle.std.proofs.Common.{◌∙◌, ◌-◌, ◌++◌, ap, refl, subst, sym}
use Rattle.std.specs.Prelude.{reverse, option_to_list}
use Rattle.world.specs.declared.run_event.RunEvent.TheVariants.{Submit}
use Rattle.world.specs.Run.{run, step}
use Rattle.world.proofs.in_code.Taking.{place_of, place_below}
use Rattle.present.specs.Present.{IsEnd}
use Rattle.present.proofs.Going.{session_begun, submission_refuses, still_holds}
use Rattle.present.proofs.actors.Actors.submit.Goals as goal

pub returns-in-Ok-clause-ok : goal.returns-in-Ok-clause-ok
returns-in-Ok-clause-ok c =
    let same = c.from.ensures ∙ c.get.ensures in
    let to = place_of c.args.session c.from.result c.len.result _ same (c.len.ensures ∙ c.args.self.now.shards.ok.0) c.requires.session in
    let lt = place_below c.args.session _ _ _ to c.requires.sessions in
    λ top events h.
    let r = session_begun top events c.args.self.now _ h c.args.session (c.from.result - c.len.result) c.in-Ok.number c.args.op c.in-Ok.finished to lt c.in-Ok.ensures.ok c.in-Ok.ensures.count refl refl refl refl in
    (r.0, subst (IsEnd (run top events) (step top (run top events) (Submit c.args.session c.args.op))) (sym c.ended.ensures) r.1, r.2)

pub returns-in-Err-clause-refused : goal.returns-in-Err-clause-refused
returns-in-Err-clause-refused c =
    let same = c.from.ensures ∙ c.get.ensures in
    let to = place_of c.args.session c.from.result c.len.result _ same (c.len.ensures ∙ c.args.self.now.shards.ok.0) c.requires.session in
    let lt = place_below c.args.session _ _ _ to c.requires.sessions in
    λ top events h.
    submission_refuses top events c.args.self.now c.args.self.now h c.args.session (c.from.result - c.len.result) c.args.op c.in-Err.refused.0 to lt c.in-Err.ensures.refused

pub returns-in-Err-clause-same : goal.returns-in-Err-clause-same
returns-in-Err-clause-same c =
    λ top events h.
    still_holds top events c.args.self.now _ h top refl refl h.present.shards c.in-Err.ensures.same (ap (λ l. option_to_list c.args.self.now.waiting.held ++ reverse c.args.self.now.waiting.turn.items ++ l) c.in-Err.ensures.unsent)
