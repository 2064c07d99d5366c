use Rattle.std.proofs.Common.{◌≡◌, false, take, Some}
use Rattle.std.specs.Prelude.{All}
use Rattle.site_port.specs.Ends.{is_awaited as is_awaited_end}
use Rattle.site_port.proofs.recalling.place_of.Given as goal

abbrev pub invariant-loop-place : goal.invariant-loop-place
invariant-loop-place l = All (λ x. is_awaited_end (Some (l.session, l.number)) x ≡ false) (take l.place l.late)
