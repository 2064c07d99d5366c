use Rattle.std.proofs.Common.{◌≡◌, ◌∙◌, ◌++◌, ◌∷◌, ℕ, ◌<◌, ◌^◌, Option, Some, List, [], ap, subst, refl, rules}
use Rattle.std.specs.Prelude.{slice_get, option_to_list, ◌==◌, ◌&&◌}
use Rattle.std.specs.List.{list_all}
use Rattle.std.proofs.lemmas.List.{append-nil}
use Rattle.messages.specs.declared.envelope.Envelope.{Envelope}
use Rattle.messages.specs.declared.outcome.Outcome.{Outcome}
use Rattle.actors.proofs.Recording.{past_more, nothing_more}
use Rattle.actors.proofs.member.Member.happen.Goals as goal

pub returns-clause-past : goal.returns-clause-past
returns-clause-past g c = λ top journal outcomes sent was.
    let old = c.args.self.now in
    let node = old.node in
    let ready = c.take_answer.new.self in
    let stepped = c.step.new.self in
    let fresh = c.step.new.outbox.sent in
    let none : outcomes ++ option_to_list (g.M.Machine.untaken old.machine) ≡ outcomes = ap (λ (o : Option (ℕ × Outcome)). outcomes ++ option_to_list o) was.taken ∙ append-nil outcomes in
    let first : g.M.Machine.came_from top node journal sent outcomes ready =
    subst (λ (o : List (ℕ × Outcome)). g.M.Machine.came_from top node journal sent o ready) none (c.take_answer.ensures.came top node journal sent outcomes was.came) in
    let start : g.M.Machine.came_from top node journal (sent ++ c.args.sends.now.sent) outcomes ready =
    subst (λ (sends : List Envelope). g.M.Machine.came_from top node journal sends outcomes ready) (nothing_more sent c.args.sends.now.sent c.requires) first in
    let came = c.in-Ok.ensures.came top node journal sent outcomes start in
    let answered = c.take_answer-ended.ensures.came top node _ _ _ came in
    past_more g.M.Machine.came_from g.M.Machine.untaken top node old.machine stepped c.take_answer-ended.new.self journal (journal ++ c.args.event ∷ []) c.args.event outcomes _
    sent fresh old.accepted _ old.clock c.clock_with-clock.result old.timed _ c.in-Ok.number was answered
    c.take_answer-ended.ensures.taken refl (search rules) (c.in-Ok.ensures.number top node _ _ _ start) (search rules)
    c.clock_with-clock.ensures.value
    (c.both-self.ensures ∙ ap (λ b. old.timed && b) (c.are_at-on_time.ensures.all ∙ ap (λ (es : List Envelope). list_all (λ (e : Envelope). e.time == c.clock_with-clock.result) es) c.as_slice.ensures))
    (subst (λ (es : List Envelope). (e : Envelope) → slice_get es 0 ≡ Some e → e.time < 2 ^ 48) c.as_slice.ensures c.are_at-on_time.ensures.below)
