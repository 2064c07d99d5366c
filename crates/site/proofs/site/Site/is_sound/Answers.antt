use Rattle.std.proofs.Common.{subst}
use Rattle.site.specs.Sites.{IsStory, IsSound, SiteValue}
use Rattle.site.proofs.Stories.{sound_story}
use Rattle.site.proofs.site.Site.is_sound.Goals as goal

pub returns-clause-story : goal.returns-clause-story
returns-clause-story g c =
    subst (λ (v : SiteValue). IsStory g.M.Machine.came_from g.M.Machine.untaken v.top v.dc v.story) c.self.view_is c.self.invariant.story

pub returns-clause-sound : goal.returns-clause-sound
returns-clause-sound g c = λ sound.
    let s = c.self.inside in
    subst (λ (v : SiteValue). IsSound g.M.Machine.came_from g.M.Machine.untaken v.top v.dc v.story) c.self.view_is
    (sound_story g.M.Machine.came_from g.M.Machine.untaken s.kept.topology s.kept.dc s.past s.kept.members.items s.kept.inbox.items s.kept.outgoing.items s.kept.fresh.sent c.self.invariant.now (c.self.invariant.sounds sound))
