use Rattle.std.proofs.Common.{rules}
use Rattle.versions.proofs.times.between.Goals as goal

pub returns-in_err-new : goal.returns-in_err-new
returns-in_err-new c = search rules

pub returns-in_ok-new : goal.returns-in_ok-new
returns-in_ok-new c = search rules
