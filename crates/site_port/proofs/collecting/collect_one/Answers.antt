use Rattle.std.proofs.Common.{◌≡◌, ◌∙◌, false, slice_get, Some, ap, subst, sym}
use Rattle.std.proofs.lemmas.Option.{slice_get-get_or}
use Rattle.site_port.proofs.Collections.{is_broken}
use Rattle.site_port.proofs.collecting.collect_one.Goals as goal

pub returns-else-is_sound-clause-broken : goal.returns-else-is_sound-clause-broken
returns-else-is_sound-clause-broken g c =
    let found = c.in-Some.ensures.lookup in
    let time = c.in-Some.time.now in
    let at = subst (λ n. slice_get c.args.times.now n ≡ Some time) c.from.ensures (slice_get-get_or c.args.times.now c.from.result time found.3.0 ∙ ap Some (sym found.1)) in
    let unsound : c.collect.new.self.site.sound ≡ false = sym c.is_sound.ensures.value ∙ c.if-is_sound.false in
    is_broken g.M.Machine.refuses c.args.shard time c.node_of-node.result c.args.times.now c.args.site.now.site c.collect.new.self.site c.in-Err._refused at c.node_of-node.ensures.node unsound c.in-Err.ensures.refused
