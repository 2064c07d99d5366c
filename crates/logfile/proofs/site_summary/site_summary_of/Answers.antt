use Rattle.std.proofs.Common.{◌≡◌, ◌∙◌, Err, sym, subst, rules}
use Rattle.site_ledger.specs.declared.entry.Entry.{Entry}
use Rattle.logfile.specs.declared.error.LogError.TheVariants.{Records}
use Rattle.logfile.specs.Sites.{AreCountsOf}
use Rattle.logfile.proofs.Sites.{unread_site, summed_site}
use Rattle.logfile.proofs.site_summary.site_summary_of.Goals as goal

pub returns-in_err-entries-clause-refused : goal.returns-in_err-entries-clause-refused
returns-in_err-entries-clause-refused c =
    let head = c.in_ok-head.head in
    let same : c.from_residual-in_err-entries.result ≡ Err (Records c.in_err-entries.field-0.0) = search rules in
    unread_site c.args.file.now c.behind-bytes.result.now head.topology head.secret head.length c.in_ok-head.ensures.begins c.in_ok-head.ensures.length c.behind-bytes.ensures c.in_err-entries.field-0.0
    c.from_residual-in_err-entries.result same c.in_err-entries.ensures.refused

pub returns-clause-ok : goal.returns-clause-ok
returns-clause-ok c =
    let head = c.in_ok-head.head in
    let counts : AreCountsOf c.args.dc head.topology.dcs c.in_ok-entries.entries.items c.in-Ok.counts = search rules in
    summed_site c.args.file.now c.behind-bytes.result.now head.topology head.secret head.length c.in_ok-head.ensures.begins c.in_ok-head.ensures.length c.behind-bytes.ensures c.in_ok-entries.entries.items c.args.dc
    c.in_ok-entries.records c.in-Ok.counts c.in_ok-entries.ensures.tell c.in_ok-entries.ensures.whole counts
