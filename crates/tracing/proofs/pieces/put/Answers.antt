use Rattle.tracing.proofs.Grown.{grown_by}
use Rattle.tracing.proofs.pieces.put.Goals as goal

pub returns-clause-grown : goal.returns-clause-grown
returns-clause-grown g c = grown_by g.W.Write.contents c.args.output.now c.put.new.self c.put.result c.args.bytes.now c.put.ensures.adds
