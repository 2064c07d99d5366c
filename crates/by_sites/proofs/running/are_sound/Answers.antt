use Rattle.std.proofs.Common.{rules, ◌≡◌, ◌<◌, ◌≤◌, true, length, arith}
use Rattle.sites.specs.Sites.{IsSiteStory}
use Rattle.actors.proofs.Lists.{here}
use Rattle.by_sites.proofs.Keeping.{sound_more}
use Rattle.by_sites.proofs.running.are_sound.Goals as goal

pub loop-place-init : goal.loop-place-init
loop-place-init c = λ k s below at. absurd (omega (arith, below))

pub loop-place-preserved : goal.loop-place-preserved
loop-place-preserved c =
    let sites = c.args.sites.now in
    let p = c.loop-place.place in
    let d = c.index-sites-place.result in
    let lt : p < length sites = search rules in
    let yes_ : c.is_sound.result ≡ true = search rules in
    let both : IsSiteStory d.top d.dc d.story = (c.is_sound.ensures.story, c.is_sound.ensures.sound yes_) in
    sound_more sites p d (here sites p d lt c.index-sites-place.is) both c.loop-place.invariant

pub returns : goal.returns
returns c = λ yes_ k s below at.
    let past : length c.args.sites.now ≤ c.loop-place.place = search rules in
    c.loop-place.invariant k s (omega (arith, below, past)) at
