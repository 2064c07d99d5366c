use Rattle.std.proofs.Common.{◌≡◌, ◌∙◌, ap, true, arith}
use Rattle.std.specs.Prelude.{is_some}
use Rattle.std.specs.declared.cmp.Ordering.{Ordering}
use Rattle.std.specs.Ordering.{is_eq}
use Rattle.std.specs.Map.{remove_entry}
use Rattle.std.specs.BTreeMap.{get}
use Rattle.column_family.specs.declared.places.Place.{Place}
use Rattle.column_family.proofs.Derived.{same_order}
use Rattle.column_family.proofs.places.remove_at.Goals as goal

pub returns-clause-entries : goal.returns-clause-entries
returns-clause-entries c = c.remove.ensures.entries ∙ ap (λ (R : Place → Place → Ordering). remove_entry (λ p. is_eq (R c.args.place.now p)) c.args.kept.now.entries) same_order

pub returns-clause-len : goal.returns-clause-len
returns-clause-len c = λ h.
    let held : is_some c.remove.result ≡ true =
    ap is_some c.remove.ensures.value ∙ (ap (λ (R : Place → Place → Ordering). is_some (get R c.args.kept.now c.args.place.now)) same_order ∙ h) in
    let counted = rw held at c.remove.ensures.len in
    omega (arith, counted)
