use Rattle.std.proofs.Common.{◌≤◌, length, take, IsNone}
use Rattle.std.specs.Io.KnownBytes.{Appends}
use Rattle.program.proofs.output.Output.put.Given as goal

-- so many bytes are written
abbrev pub invariant-loop : goal.invariant-loop
invariant-loop g l = record {
  within : l.written ≤ length l.bytes;
  sound : IsNone l.self.failure;
  written : Appends (g.W.Write.contents l.fn.self.writer) (g.W.Write.contents l.self.writer) (take l.written l.bytes);
}
