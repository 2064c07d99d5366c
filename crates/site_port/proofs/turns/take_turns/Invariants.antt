use Rattle.std.proofs.Common.{◌≡◌, true}
use Rattle.site_port.specs.Port.{StaysKept}
use Rattle.site_port.proofs.Turning.{AreTaken}
use Rattle.site_port.proofs.turns.take_turns.Given as goal

-- no turn so far ended what is awaited
abbrev pub invariant-loop-taken : goal.invariant-loop-taken
invariant-loop-taken g l = record {
  taken : AreTaken l.fn.awaited l._taken l.fn.site.site l.site.site l.fn.late.items l.late.items;
  sound : l.fn.site.site.sound ≡ true → l.site.site.sound ≡ true;
  kept : StaysKept l.fn.site l.site;
}
