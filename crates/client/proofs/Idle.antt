-- Nothing is open where an operation is allowed.
use Rattle.std.proofs.Common.{◌≡◌, refl, Option, None}
use Rattle.logical_time.specs.declared.fault.Fault.{Fault}
use Rattle.messages.specs.declared.op.Op.{Op}
use Rattle.messages.specs.Session.{is_idle}
use Rattle.messages.specs.Submitting.{busy_or, plan_fault}
use Rattle.client.specs.declared.kept.SessionKept.{SessionKept}
use Rattle.client.specs.declared.current.Current.{Current}
use Rattle.client.specs.declared.current.Current.TheVariants.{Idle, Write, First, Second, Move}
use Rattle.client.specs.Accepted.{fault_of}
use Rattle.client.specs.Current.{open_of}
use Rattle.client.specs.State.{topology_of}

idle_of : (current : Current) (fault : Option Fault) → busy_or (is_idle (open_of current)) fault ≡ None → current ≡ Idle
idle_of Idle fault e = refl
idle_of (Write coordinator) fault e = absurd (cc)
idle_of (First f) fault e = absurd (cc)
idle_of (Second s) fault e = absurd (cc)
idle_of (Move home m) fault e = absurd (cc)

pub idle_allowed : (k : SessionKept) (o : Op) → fault_of k o ≡ None → k.current ≡ Idle
idle_allowed k o e = idle_of k.current (plan_fault (topology_of k) k.home.dc o) e
