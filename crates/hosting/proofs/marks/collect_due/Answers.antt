use Rattle.hosting.proofs.Passing.{collecting_gives_none, breaking_gives_none}
use Rattle.hosting.proofs.marks.collect_due.Goals as goal

pub returns-in_err-collect-clause-ungiven : goal.returns-in_err-collect-clause-ungiven
returns-in_err-collect-clause-ungiven g c = breaking_gives_none _ c.args.port.now.site.site c.collect.new.self.site.site _ _ c.in_err-collect.ensures.broken

pub returns-clause-ungiven : goal.returns-clause-ungiven
returns-clause-ungiven g c = collecting_gives_none _ c.args.port.now.site.site c.collect.new.self.site.site _ _ c.in_ok-collect.ensures.collected
