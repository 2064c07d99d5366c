use Rattle.std.proofs.Common.{[], refl, sym, ap, append-nil}
use Rattle.std.specs.Prelude.{option_to_list}
use Rattle.site_port.specs.Ends.{end_by}
use Rattle.site_port.proofs.turns.tell.Goals as goal

-- it is the only one
pub returns-then-is_awaited : goal.returns-then-is_awaited
returns-then-is_awaited c = (
  [],
  record { session = c.args.session; number = c.in_ok-number.number; outcome = c.in_ok-number.outcome },
  ap (λ e. option_to_list (end_by c.args.session e)) c.in_ok-number.was,
  sym c.if-is_awaited.ensures,
  refl,
  sym (append-nil c.args.late.now.items),
)
