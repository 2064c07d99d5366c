use Rattle.std.proofs.Common.{◌∙◌, ◌++◌, ◌∷◌, [], sym, ap, subst}
use Rattle.std.specs.Prelude.{slice_get}
use Rattle.messages.specs.declared.event.ActorEvent.{ActorEvent}
use Rattle.site.specs.Story.{Story, Did}
use Rattle.site.specs.Sites.{IsStory}
use Rattle.site.specs.Keeping.{AreOf, AreSound, MemberDid, MemberRefused}
use Rattle.site.proofs.Stories.{event_keeps, event_may, event_numbered, event_sound, event_sounds, refusal_keeps, refusal_sounds, refusal_told, story_grows}
use Rattle.site.proofs.kept.Kept.happen.Goals as goal

pub happen_at-requires-clause-there : goal.happen_at-requires-clause-there
happen_at-requires-clause-there g c =
    let p = c.requires.now.all c.args.node c.requires.here in
    (p.0, ap (λ k. slice_get c.args.self.now.members.items k) (c.from-place.ensures ∙ c.get.ensures) ∙ p.1)

pub returns-in-Ok-clause-goes : goal.returns-in-Ok-clause-goes
returns-in-Ok-clause-goes g c =
    let k = c.args.self.now in
    let h = c.in-Ok.happened in
    let sends = c.happen_at.new.sends.sent in
    let after = c.happen_at.new.members.items in
    let d = subst (λ n. MemberDid g.M.Machine.came_from g.M.Machine.untaken k.members.items n c.args.event h sends after) (c.from-place.ensures ∙ c.get.ensures) c.in-Ok.ensures.done in
    let told = c.add_event.ensures ∙ ap (λ (x : ActorEvent). c.args.past.now ++ Did c.args.node x sends h.ended ∷ []) c.of-told.ensures in
    subst (λ (s : Story). AreOf g.M.Machine.came_from g.M.Machine.untaken k.topology k.dc s after k.inbox.items k.outgoing.items sends) (sym told)
    (event_keeps g.M.Machine.came_from g.M.Machine.untaken k.topology k.dc c.args.past.now k.members.items c.args.node c.args.event k.inbox.items k.outgoing.items c.requires.now h sends after d)

pub returns-in-Ok-clause-story : goal.returns-in-Ok-clause-story
returns-in-Ok-clause-story g c = λ was.
    let k = c.args.self.now in
    let h = c.in-Ok.happened in
    let sends = c.happen_at.new.sends.sent in
    let after = c.happen_at.new.members.items in
    let d = subst (λ n. MemberDid g.M.Machine.came_from g.M.Machine.untaken k.members.items n c.args.event h sends after) (c.from-place.ensures ∙ c.get.ensures) c.in-Ok.ensures.done in
    let told = c.add_event.ensures ∙ ap (λ (x : ActorEvent). c.args.past.now ++ Did c.args.node x sends h.ended ∷ []) c.of-told.ensures in
    let now = event_keeps g.M.Machine.came_from g.M.Machine.untaken k.topology k.dc c.args.past.now k.members.items c.args.node c.args.event k.inbox.items k.outgoing.items c.requires.now h sends after d in
    let may = event_may g.M.Machine.came_from g.M.Machine.untaken k.topology k.dc c.args.past.now k.members.items c.args.node c.args.event k.inbox.items k.outgoing.items c.requires.now h sends after d c.requires.its in
    subst (λ (s : Story). IsStory g.M.Machine.came_from g.M.Machine.untaken k.topology k.dc s) (sym told)
    (story_grows g.M.Machine.came_from g.M.Machine.untaken k.topology k.dc c.args.past.now (Did c.args.node c.args.event sends h.ended) after k.inbox.items k.outgoing.items sends may now was)

pub returns-in-Ok-clause-number : goal.returns-in-Ok-clause-number
returns-in-Ok-clause-number g c =
    let k = c.args.self.now in
    let sends = c.happen_at.new.sends.sent in
    let after = c.happen_at.new.members.items in
    let d = subst (λ n. MemberDid g.M.Machine.came_from g.M.Machine.untaken k.members.items n c.args.event c.in-Ok.happened sends after) (c.from-place.ensures ∙ c.get.ensures) c.in-Ok.ensures.done in
    event_numbered g.M.Machine.came_from g.M.Machine.untaken k.topology k.dc c.args.past.now k.members.items c.args.node c.args.event k.inbox.items k.outgoing.items c.requires.now c.in-Ok.happened sends after d

pub returns-in-Ok-clause-sound : goal.returns-in-Ok-clause-sound
returns-in-Ok-clause-sound g c =
    let k = c.args.self.now in
    let sends = c.happen_at.new.sends.sent in
    let after = c.happen_at.new.members.items in
    let d = subst (λ n. MemberDid g.M.Machine.came_from g.M.Machine.untaken k.members.items n c.args.event c.in-Ok.happened sends after) (c.from-place.ensures ∙ c.get.ensures) c.in-Ok.ensures.done in
    event_sound g.M.Machine.came_from g.M.Machine.untaken k.topology k.dc c.args.past.now k.members.items c.args.node c.args.event k.inbox.items k.outgoing.items c.requires.now c.in-Ok.happened sends after d

pub returns-in-Ok-clause-sounds : goal.returns-in-Ok-clause-sounds
returns-in-Ok-clause-sounds g c = λ sound were.
    let k = c.args.self.now in
    let h = c.in-Ok.happened in
    let sends = c.happen_at.new.sends.sent in
    let after = c.happen_at.new.members.items in
    let d = subst (λ n. MemberDid g.M.Machine.came_from g.M.Machine.untaken k.members.items n c.args.event h sends after) (c.from-place.ensures ∙ c.get.ensures) c.in-Ok.ensures.done in
    let told = c.add_event.ensures ∙ ap (λ (x : ActorEvent). c.args.past.now ++ Did c.args.node x sends h.ended ∷ []) c.of-told.ensures in
    subst (λ (s : Story). AreSound s after) (sym told)
    (event_sounds g.M.Machine.came_from g.M.Machine.untaken k.topology k.dc c.args.past.now k.members.items c.args.node c.args.event k.inbox.items k.outgoing.items c.requires.now h sends after d sound were)

pub returns-in-Err-clause-stays : goal.returns-in-Err-clause-stays
returns-in-Err-clause-stays g c =
    let k = c.args.self.now in
    let after = c.happen_at.new.members.items in
    let d = subst (λ n. MemberRefused g.M.Machine.came_from g.M.Machine.untaken g.M.Machine.refuses k.members.items n c.args.event c.in-Err.refused.0 after) (c.from-place.ensures ∙ c.get.ensures) c.in-Err.ensures.undone in
    refusal_keeps g.M.Machine.came_from g.M.Machine.untaken k.topology k.dc c.args.past.now k.members.items c.args.node c.args.event k.inbox.items k.outgoing.items c.requires.now g.M.Machine.refuses c.in-Err.refused.0 after d

pub returns-in-Err-clause-still : goal.returns-in-Err-clause-still
returns-in-Err-clause-still g c =
    let k = c.args.self.now in
    let after = c.happen_at.new.members.items in
    let d = subst (λ n. MemberRefused g.M.Machine.came_from g.M.Machine.untaken g.M.Machine.refuses k.members.items n c.args.event c.in-Err.refused.0 after) (c.from-place.ensures ∙ c.get.ensures) c.in-Err.ensures.undone in
    refusal_sounds g.M.Machine.came_from g.M.Machine.untaken k.topology k.dc c.args.past.now k.members.items c.args.node c.args.event k.inbox.items k.outgoing.items c.requires.now g.M.Machine.refuses c.in-Err.refused.0 after d

pub returns-in-Err-clause-refused : goal.returns-in-Err-clause-refused
returns-in-Err-clause-refused g c =
    let k = c.args.self.now in
    let after = c.happen_at.new.members.items in
    let d = subst (λ n. MemberRefused g.M.Machine.came_from g.M.Machine.untaken g.M.Machine.refuses k.members.items n c.args.event c.in-Err.refused.0 after) (c.from-place.ensures ∙ c.get.ensures) c.in-Err.ensures.undone in
    refusal_told g.M.Machine.came_from g.M.Machine.untaken k.topology k.dc c.args.past.now k.members.items c.args.node c.args.event k.inbox.items k.outgoing.items c.requires.now g.M.Machine.refuses c.in-Err.refused.0 after d
