use Rattle.std.proofs.Common.{List, sym, subst}
use Rattle.records.specs.Records.{views}
use Rattle.site_ledger.specs.declared.entry.Entry.{Entry}
use Rattle.durable_site.specs.Logged.{Tell}
use Rattle.durable_site.proofs.Opened.{begun_of_none}
use Rattle.durable_site.proofs.opening.resume.Goals as goal

pub returns-clause-any_moment : goal.returns-clause-any_moment
returns-clause-any_moment g c =
    let records = views c.args.records.items in
    begun_of_none c.deref.result.now records _ _ (subst (λ (es : List Entry). Tell es records) (sym c.deref.ensures.value) c.in_ok-entries.ensures.tell) c.identify.ensures.any_moment
