use Rattle.std.proofs.Common.{◌≡◌, ◌∙◌, Some, None, ap, rules}
use Rattle.std.specs.Prelude.{if◌then◌else◌}
use Rattle.logical_time.specs.declared.fault.Fault.TheVariants.{Memory}
use Rattle.site_ledger.proofs.Parcels.{unread, unspelled}
use Rattle.site_ledger.proofs.reading.read_envelope.Goals as goal

pub returns-else-branch-clause-none : goal.returns-else-branch-clause-none
returns-else-branch-clause-none c =
    unspelled c.args.parcel.now c.in-Ok.envelope c.in-Ok.ensures.ok
    (c.in_ok-is_spelled_by-in-Ok.ensures.spelled ∙ ap (λ yes. if yes then Some c.args.parcel.now else None) c.if-branch.false)

pub returns-else-eq-clause-none : goal.returns-else-eq-clause-none
returns-else-eq-clause-none c =
    let other : c.in-Err.fault ≡ Memory → ⊥ = search rules in
    unread c.args.parcel.now c.in-Err.fault c.in-Err.ensures.fault other
