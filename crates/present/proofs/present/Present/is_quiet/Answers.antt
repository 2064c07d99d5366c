use Rattle.std.proofs.Common.{◌≡◌, Bool, true, false, refl, sym}
use Rattle.world.specs.World.{run_of}
use Rattle.world.specs.Quiet.{IsQuiet}
use Rattle.present.proofs.Calls.{is_quiet_now, is_done_now, next_waits, next_is_first, not_quiet_yet}
use Rattle.present.proofs.present.Present.is_quiet.Goals as goal

pub returns-clause-exact : goal.returns-clause-exact
returns-clause-exact c = (
  λ e. is_quiet_now c.args.self.now c.self.inside.actors c.self.inside.past c.self.invariant.0 (sym c.self.view_is) (c.is_done.ensures.done e),
  λ quiet. go c.is_done.result refl quiet,
)
  where
    go : (b : Bool) → c.is_done.result ≡ b → IsQuiet (run_of c.args.self.now) → b ≡ true
    go true e quiet = refl
    go false e quiet = absurd (not_quiet_yet c.args.self.now c.self.inside.actors c.self.inside.past c.self.invariant.0 (sym c.self.view_is) (c.is_done.ensures.waits e) quiet)

pub returns-clause-done : goal.returns-clause-done
returns-clause-done c = λ e. is_done_now c.args.self.now c.self.inside.actors c.self.inside.past c.self.invariant.0 (sym c.self.view_is) (c.is_done.ensures.done e)

pub returns-clause-waits : goal.returns-clause-waits
returns-clause-waits c = λ e. next_waits c.args.self.now c.self.inside.actors c.self.inside.past c.self.invariant.0 (sym c.self.view_is) (c.is_done.ensures.waits e)

pub returns-clause-first : goal.returns-clause-first
returns-clause-first c = λ e. next_is_first c.args.self.now c.self.inside.actors c.self.inside.past c.self.invariant.0 (sym c.self.view_is) (c.is_done.ensures.waits e)
