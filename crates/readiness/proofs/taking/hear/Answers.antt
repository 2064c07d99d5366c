use Rattle.std.proofs.Common.{None, ap, refl}
use Rattle.readiness.specs.Lines.{ReadyValue}
use Rattle.readiness.specs.Kept.{view}
use Rattle.readiness.proofs.Events.{same_kept, has_failed, open_goes}
use Rattle.readiness.specs.declared.line.Came.TheVariants as came
use Rattle.readiness.proofs.Silent.{says-read, read-says}
use Rattle.readiness.proofs.taking.hear.Goals as goal

pub returns-in-Bytes-clause-keeps : goal.returns-in-Bytes-clause-keeps
returns-in-Bytes-clause-keeps g c = c.take_piece.ensures.keeps (g.L.ReadyLine.seen c.args.connection.now.line) (ap (λ (x : ReadyValue). x.line) c.in-Bytes.ensures.line)

pub returns-in-End-clause-keeps : goal.returns-in-End-clause-keeps
returns-in-End-clause-keeps g c = c.end_of_input.ensures.keeps (g.L.ReadyLine.seen c.args.connection.now.line) (ap (λ (x : ReadyValue). x.line) c.in-End.ensures.line)

pub returns-in-Nothing-clause-keeps : goal.returns-in-Nothing-clause-keeps
returns-in-Nothing-clause-keeps g c = same_kept (view g.L.ReadyLine.seen c.args.connection.now) _ (ap (λ (x : ReadyValue). x.line) c.in-Nothing.ensures.line) refl refl refl

pub returns-in-Failed-clause-keeps : goal.returns-in-Failed-clause-keeps
returns-in-Failed-clause-keeps g c =
    has_failed (view g.L.ReadyLine.seen c.args.connection.now) (g.L.ReadyLine.seen c.read.new.self) c.args.connection.now.waiting.items (open_goes None c.args.connection.now.stage c.requires.stage) (ap (λ (x : ReadyValue). x.line) c.in-Failed.ensures.line)

pub returns-in-Bytes-clause-silent : goal.returns-in-Bytes-clause-silent
returns-in-Bytes-clause-silent g c = says-read c.read.new.buffer (came.Bytes c.in-Bytes.n) (view g.L.ReadyLine.seen c.args.connection.now) (view g.L.ReadyLine.seen c.take_piece.new.connection) (g.L.ReadyLine.seen c.read.new.self) c.in-Bytes.ensures.line c.take_piece.ensures.line

pub returns-in-End-clause-silent : goal.returns-in-End-clause-silent
returns-in-End-clause-silent g c = says-read c.read.new.buffer came.End (view g.L.ReadyLine.seen c.args.connection.now) (view g.L.ReadyLine.seen c.end_of_input.new.connection) (g.L.ReadyLine.seen c.read.new.self) c.in-End.ensures.line c.end_of_input.ensures.line

pub returns-in-Nothing-clause-silent : goal.returns-in-Nothing-clause-silent
returns-in-Nothing-clause-silent g c = read-says c.read.new.buffer came.Nothing (view g.L.ReadyLine.seen c.args.connection.now) (g.L.ReadyLine.seen c.read.new.self) c.in-Nothing.ensures.line

pub returns-in-Failed-clause-silent : goal.returns-in-Failed-clause-silent
returns-in-Failed-clause-silent g c = read-says c.read.new.buffer came.Failed (view g.L.ReadyLine.seen c.args.connection.now) (g.L.ReadyLine.seen c.read.new.self) c.in-Failed.ensures.line
