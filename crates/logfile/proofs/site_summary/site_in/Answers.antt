use Rattle.logfile.proofs.Sites.{of_site, of_no_site}
use Rattle.logfile.proofs.site_summary.site_in.Goals as goal

pub returns-in-Ok-clause-some : goal.returns-in-Ok-clause-some
returns-in-Ok-clause-some c =
    let head = c.in_ok-head.head in
    of_site c.args.file.now c.behind-bytes.result.now head.topology head.secret head.length c.in_ok-head.ensures.begins c.in_ok-head.ensures.length c.behind-bytes.ensures c.in-Ok.dc c.in-Ok.ensures.some

pub returns-in-Ok-clause-none : goal.returns-in-Ok-clause-none
returns-in-Ok-clause-none c =
    let head = c.in_ok-head.head in
    of_no_site c.args.file.now c.behind-bytes.result.now head.topology head.secret head.length c.in_ok-head.ensures.begins c.in_ok-head.ensures.length c.behind-bytes.ensures c.in-Ok.dc c.in-Ok.ensures.none
