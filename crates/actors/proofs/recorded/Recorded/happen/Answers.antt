use Rattle.std.proofs.Common.{◌≡◌, ◌∙◌, ◌++◌, ◌<◌, ◌^◌, Some, List, ap, sym, subst, rules, arith}
use Rattle.std.specs.Prelude.{min, slice_get}
use Rattle.std.proofs.lemmas.Grind.{common_steps}
use Rattle.messages.specs.declared.envelope.Envelope.{Envelope}
use Rattle.messages.specs.declared.event.ActorEvent.{ActorEvent}
use Rattle.actors.specs.Shown.{clock_with}
use Rattle.actors.proofs.Recording.{past_more, goes_more, nothing_more, all_in_first}
use Rattle.actors.proofs.recorded.Recorded.happen.Goals as goal

pub returns-clause-recorded : goal.returns-clause-recorded
returns-clause-recorded g c = λ top node before was.
    let old = c.args.self.now in
    let made = c.make_room.new.self in
    let same = c.in-Ok.ensures.same in
    let fresh = c.step.new.outbox.sent in
    let whole : made.outbox.sent ≡ old.outbox.sent ++ old.fresh.sent =
    all_in_first made.outbox.sent made.fresh.sent old.outbox.sent old.fresh.sent c.in-Ok.ensures.sent c.in-Ok.ensures.empty in
    let start : g.M.Machine.came_from top node old.journal.items (was.sent ++ made.fresh.sent) old.outcomes.items made.machine =
    subst (λ (sends : List Envelope). g.M.Machine.came_from top node old.journal.items sends old.outcomes.items made.machine) (nothing_more was.sent made.fresh.sent c.in-Ok.ensures.empty)
    (subst (λ m. g.M.Machine.came_from top node old.journal.items was.sent old.outcomes.items m) (sym same.0) was.past.came) in
    let stepped = c.in-Ok-step.ensures.came top node old.journal.items was.sent old.outcomes.items start in
    let answered = c.take_answer-outcome.ensures.came top node _ _ _ stepped in
    record {
      sent = was.sent ++ fresh;
      goes = goes_more before (old.outbox.sent ++ old.fresh.sent) fresh (made.outbox.sent ++ fresh) was.sent was.goes (ap (λ es. es ++ fresh) whole);
      past =
          past_more g.M.Machine.came_from g.M.Machine.untaken top node old.machine c.step.new.self c.take_answer-outcome.new.self old.journal.items _ c.args.event old.outcomes.items _
          was.sent fresh old.accepted _ old.clock c.clock_with-self.result old.timed _ c.in-Ok-step.number was.past answered
          c.take_answer-outcome.ensures.taken (search rules) (search rules) (c.in-Ok-step.ensures.number top node _ _ _ start) (search rules)
          (λ k is. c.clock_with-self.ensures.value k (same.3 ∙ is) ∙ ap (λ (x : ActorEvent). min (clock_with k x) (2 ^ 48)) c.in-Ok.ensures.copy)
          (search rules) (subst (λ (es : List Envelope). (e : Envelope) → slice_get es 0 ≡ Some e → e.time < 2 ^ 48) c.as_slice.ensures c.are_at-on_time.ensures.below);
    }

pub returns-clause-fault : goal.returns-clause-fault
returns-clause-fault g c = grind (arith, common_steps)

pub returns-clause-full : goal.returns-clause-full
returns-clause-full g c = grind (arith, common_steps)

pub returns-clause-refused : goal.returns-clause-refused
returns-clause-refused g c = grind (arith, common_steps)

pub returns-clause-room : goal.returns-clause-room
returns-clause-room g c = grind (arith, common_steps)

pub returns-in-Err-clause-fault : goal.returns-in-Err-clause-fault
returns-in-Err-clause-fault g c = grind (arith, common_steps)

pub returns-in-Err-clause-full : goal.returns-in-Err-clause-full
returns-in-Err-clause-full g c = grind (arith, common_steps)

pub returns-in-Err-clause-refused : goal.returns-in-Err-clause-refused
returns-in-Err-clause-refused g c = grind (arith, common_steps)

pub returns-in-Err-clause-room : goal.returns-in-Err-clause-room
returns-in-Err-clause-room g c = grind (arith, common_steps)

pub returns-in-Err-step-clause-fault : goal.returns-in-Err-step-clause-fault
returns-in-Err-step-clause-fault g c = grind (arith, common_steps)

pub returns-in-Err-step-clause-full : goal.returns-in-Err-step-clause-full
returns-in-Err-step-clause-full g c = grind (arith, common_steps)

pub returns-in-Err-step-clause-refused : goal.returns-in-Err-step-clause-refused
returns-in-Err-step-clause-refused g c = grind (arith, common_steps)

pub returns-in-Err-step-clause-room : goal.returns-in-Err-step-clause-room
returns-in-Err-step-clause-room g c = grind (arith, common_steps)

pub returns-then-len-self-clause-fault : goal.returns-then-len-self-clause-fault
returns-then-len-self-clause-fault g c = grind (arith, common_steps)

pub returns-then-len-self-clause-full : goal.returns-then-len-self-clause-full
returns-then-len-self-clause-full g c = grind (arith, common_steps)

pub returns-then-len-self-clause-refused : goal.returns-then-len-self-clause-refused
returns-then-len-self-clause-refused g c = grind (arith, common_steps)

pub returns-then-len-self-clause-room : goal.returns-then-len-self-clause-room
returns-then-len-self-clause-room g c = grind (arith, common_steps)

pub keep-requires : goal.keep-requires
keep-requires c = grind (arith, common_steps)
