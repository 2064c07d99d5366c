use Rattle.std.proofs.Common.{◌≡◌, ◌∙◌, Err, rules}
use Rattle.logfile.specs.declared.error.LogError.TheVariants.{Records}
use Rattle.logfile.proofs.Files.{unrecalled_file, remembered}
use Rattle.logfile.proofs.histories.record_log.Goals as goal

pub returns-in_err-world-clause-refused : goal.returns-in_err-world-clause-refused
returns-in_err-world-clause-refused c =
    let head = c.in_ok-head.head in
    let same : c.from_residual-in_err-world.result ≡ Err (Records c.in_err-world.field-0.0) = search rules in
    unrecalled_file c.args.file.now c.behind-bytes.result.now head.topology head.secret head.length c.in_err-world.field-0.0 c.from_residual-in_err-world.result same
    c.in_ok-head.ensures.begins c.in_ok-head.ensures.length c.behind-bytes.ensures c.in_err-world.ensures.refused

pub returns-in-Ok-clause-history : goal.returns-in-Ok-clause-history
returns-in-Ok-clause-history c =
    let head = c.in_ok-head.head in
    let e = c.in_ok-world.ensures in
    let r = c.in-Ok.ensures in
    remembered c.args.file.now c.behind-bytes.result.now head.topology head.secret head.length c.in_ok-world.world c.in-Ok.recorded
    c.in_ok-head.ensures.begins c.in_ok-head.ensures.length c.behind-bytes.ensures e.topology e.led e.undamaged e.comes_back e.quiet (r.families ∙ c.schema.ensures) r.histories r.reads
