use Rattle.std.proofs.Common.{refl}
use Rattle.service.proofs.awaited.Awaited.ask.Goals as goal

pub returns-clause-same_world : goal.returns-clause-same_world
returns-clause-same_world c = c.ask_telling.ensures.stays c.args.self.now refl
