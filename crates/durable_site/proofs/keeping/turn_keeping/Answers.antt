use Rattle.std.proofs.Common.{◌≡◌, ◌∙◌, ◌++◌, ◌+◌, ℕ, true, false, refl, ap, sym, rules}
use Rattle.std.specs.Prelude.{replicate}
use Rattle.site.specs.Steps.{steps, Turned}
use Rattle.durable_site.proofs.Calls.{turned_steps, turn_broke}
use Rattle.durable_site.proofs.Logs.{logged_turned}
use Rattle.durable_site.proofs.keeping.turn_keeping.Goals as goal

pub returns-in-Ok-clause-logged : goal.returns-in-Ok-clause-logged
returns-in-Ok-clause-logged g c = λ whose l.
    let old = c.args.site.now in
    let new = c.turn.new.self in
    let mid = c.make_room.new.self in
    logged_turned g.D.Disk.seen g.D.Disk.may_leave whose mid (record { log = mid.log; turned = mid.turned + c.counted.result }) c.counted.result (steps old.story) (steps new.story) refl refl
    (turned_steps old new c.in-Ok.turn c.in-Ok.ensures.turned ∙ ap (λ (n : ℕ). steps old.story ++ replicate n Turned) (sym c.counted.ensures)) (c.make_room.ensures.logged whose (steps old.story) l)

pub returns-in-Err-2-clause-logged : goal.returns-in-Err-2-clause-logged
returns-in-Err-2-clause-logged g c = λ whose l.
    let old = c.args.site.now in
    let new = c.turn.new.self in
    let mid = c.make_room.new.self in
    let was : old.sound ≡ true = search rules in
    let broke : new.sound ≡ false = search rules in
    logged_turned g.D.Disk.seen g.D.Disk.may_leave whose mid (record { log = mid.log; turned = mid.turned + 1 }) 1 (steps old.story) (steps new.story) refl refl
    (turn_broke g.M.Machine.refuses old new c.in-Err-2.fault c.in-Err-2.ensures.refused was broke) (c.make_room.ensures.logged whose (steps old.story) l)
