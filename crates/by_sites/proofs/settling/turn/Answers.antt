use Rattle.std.proofs.Common.{◌≡◌, ◌∙◌, [], get_or, set, Some, None, sym, subst}
use Rattle.std.proofs.lemmas.List.{append-nil}
use Rattle.threaded.specs.Machines.{CameFrom, untaken_of}
use Rattle.site.specs.declared.turn.Turn.{Turn}
use Rattle.site.specs.Sites.{SiteValue, IsStory}
use Rattle.site.specs.Turns.{HasTurned}
use Rattle.actors.proofs.Lists.{here}
use Rattle.by_sites.specs.Holds.{Holds}
use Rattle.by_sites.proofs.Keeping.{turned, none_handled, read_again}
use Rattle.by_sites.proofs.settling.turn.Goals as goal

pub returns-in-Idle-clause-rest : goal.returns-in-Idle-clause-rest
returns-in-Idle-clause-rest c =
    let d = c.index-sites-place.result in
    let n = c.turn.new.self in
    let did = subst (λ (s : SiteValue). HasTurned s c.in_ok-turned.turned n) (sym c.index-sites-place.is) c.in_ok-turned.ensures.turned in
    λ no. none_handled c.args.sites.now c.args.place d n c.requires (here c.args.sites.now c.args.place d c.requires c.index-sites-place.is) (subst (λ (t : Turn). HasTurned d t n) c.in-Idle.is did)

pub returns-in-Handled-clause-on : goal.returns-in-Handled-clause-on
returns-in-Handled-clause-on c =
    let sites = c.args.sites.now in
    let p = c.args.place in
    let d = c.index-sites-place.result in
    let n = c.turn.new.self in
    let r = c.index-sites-place-2.result in
    let did = subst (λ (s : SiteValue). HasTurned s c.in_ok-turned.turned n) (sym c.index-sites-place.is) c.in_ok-turned.ensures.turned in
    let one = subst (λ (t : Turn). HasTurned d t n) c.in-Handled.is did in
    let same : get_or (set sites p n) p r ≡ n = sym c.index-sites-place-2.is ∙ read_again sites p n r c.requires c.index-sites-place-2.is in
    let story = subst (λ (z : SiteValue). IsStory CameFrom untaken_of z.top z.dc z.story) same c.is_sound-sound.ensures.story in
    λ top events holds. subst (λ l. Holds top events (set sites p n) l []) (append-nil c.args.told.now)
    (turned top events sites c.args.told.now p d n one.0 None c.requires (here sites p d c.requires c.index-sites-place.is) one.1 story holds)

pub returns-in_ok-note-in-Ended-clause-on : goal.returns-in_ok-note-in-Ended-clause-on
returns-in_ok-note-in-Ended-clause-on c =
    let sites = c.args.sites.now in
    let p = c.args.place in
    let d = c.index-sites-place.result in
    let n = c.turn.new.self in
    let r = c.index-sites-place-2.result in
    let did = subst (λ (s : SiteValue). HasTurned s c.in_ok-turned.turned n) (sym c.index-sites-place.is) c.in_ok-turned.ensures.turned in
    let one = subst (λ (t : Turn). HasTurned d t n) c.in-Ended.is did in
    let same : get_or (set sites p n) p r ≡ n = sym c.index-sites-place-2.is ∙ read_again sites p n r c.requires c.index-sites-place-2.is in
    let story = subst (λ (z : SiteValue). IsStory CameFrom untaken_of z.top z.dc z.story) same c.is_sound-sound.ensures.story in
    λ top events holds. subst (λ l. Holds top events (set sites p n) l []) (sym c.in_ok-note-in-Ended.ensures.told)
    (turned top events sites c.args.told.now p d n c.in-Ended.session (Some (c.in-Ended.number, c.in-Ended.outcome)) c.requires (here sites p d c.requires c.index-sites-place.is) one story holds)
