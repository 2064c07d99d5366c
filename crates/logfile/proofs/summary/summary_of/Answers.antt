use Rattle.std.proofs.Common.{◌≡◌, ◌∙◌, Err, ap, rules}
use Rattle.std.specs.Prelude.{count_by}
use Rattle.logfile.specs.declared.error.LogError.TheVariants.{Records}
use Rattle.logfile.specs.Told.{is_request}
use Rattle.logfile.proofs.Files.{unread_file, summed}
use Rattle.logfile.proofs.summary.summary_of.Goals as goal

pub returns-in_err-entries-clause-refused : goal.returns-in_err-entries-clause-refused
returns-in_err-entries-clause-refused c =
    let head = c.in_ok-head.head in
    let same : c.from_residual-in_err-entries.result ≡ Err (Records c.in_err-entries.field-0.0) = search rules in
    unread_file c.args.file.now c.behind-bytes.result.now head.topology head.secret head.length c.in_err-entries.field-0.0 c.from_residual-in_err-entries.result same
    c.in_ok-head.ensures.begins c.in_ok-head.ensures.length c.behind-bytes.ensures c.in_err-entries.ensures.refused

pub returns-clause-ok : goal.returns-clause-ok
returns-clause-ok c =
    let head = c.in_ok-head.head in
    summed c.args.file.now c.behind-bytes.result.now head.topology head.secret head.length c.in_ok-entries.entries.items c.requests_in-requests.result c.len.result c.in_ok-entries.records
    c.in_ok-head.ensures.begins c.in_ok-head.ensures.length c.behind-bytes.ensures c.in_ok-entries.ensures.tell c.in_ok-entries.ensures.whole
    (c.requests_in-requests.ensures ∙ ap (count_by is_request) c.deref.ensures.value) (search rules)
