use Rattle.std.proofs.Common.{◌<◌, [], refl, sym, subst, arith}
use Rattle.by_sites.specs.Holds.{Holds}
use Rattle.by_sites.proofs.Keeping.{begins}
use Rattle.by_sites.proofs.Concluding.{is_transcript}
use Rattle.by_sites.proofs.running.perform.Goals as goal

pub returns : goal.returns
returns c =
    let s = c.args.script.now in
    let value = c.dcs-limits.ensures.value in
    let limits = c.dcs-limits.ensures.limits.0 in
    let some : 0 < s.topology.dcs = omega (arith, value, limits) in
    let opening = subst (λ l. Holds s.topology [] c.args.sites.now l []) (sym c.new-told.ensures) (begins s.topology c.args.sites.now c.requires) in
    let taken = c.in_ok-take_all.ensures.taken [] opening in
    let rested = c.in_ok-settle.ensures.on s.events taken in
    record { told = is_transcript s c.settle.new.told c.settle.new.sites some rested (c.if-not-are_sound.ensures refl) c.in_ok-settle.ensures.rest }
