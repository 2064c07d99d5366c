use Rattle.std.proofs.Common.{◌∙◌, ap, subst}
use Rattle.site.specs.Sites.{SiteValue}
use Rattle.sites.specs.Sites.{IsSiteStory}
use Rattle.hosting.proofs.node.Node.round.Goals as goal

pub returns-clause-meant : goal.returns-clause-meant
returns-clause-meant g c = λ sound.
    let here = c.site.ensures in
    let told = c.is_sound-sound.ensures in
    let all : IsSiteStory c.site.result.now.site.top c.site.result.now.site.dc c.site.result.now.site.story = (told.story, told.sound (told.value ∙ (ap (λ s. s.site.sound) here ∙ sound))) in
    let moved = subst (λ (s : SiteValue). IsSiteStory s.top s.dc s.story) (ap (λ s. s.site) here) all in
    c.answers_of_sites.ensures.alone c.go_round-went.new.port.site.site.top c.go_round-went.new.port.site.site.dc c.go_round-went.new.port.site.site.story moved

pub returns-clause-alone : goal.returns-clause-alone
returns-clause-alone g c = λ sound idle journals events has is.
    let here = c.site.ensures in
    let told = c.is_sound-sound.ensures in
    let all : IsSiteStory c.site.result.now.site.top c.site.result.now.site.dc c.site.result.now.site.story = (told.story, told.sound (told.value ∙ (ap (λ s. s.site.sound) here ∙ sound))) in
    let moved = subst (λ (s : SiteValue). IsSiteStory s.top s.dc s.story) (ap (λ s. s.site) here) all in
    let site = c.go_round-went.new.port.site.site in (
      c.idle_sites_have_answered.ensures.runs site.top site.dc site.story journals events moved idle has is,
      λ node number o session here_is home asked local. c.idle_sites_have_answered.ensures.ended site.top site.dc site.story journals events node number o moved idle has is session here_is home asked local,
    )
