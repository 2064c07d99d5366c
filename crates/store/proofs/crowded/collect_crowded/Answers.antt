use Rattle.std.proofs.Common.{sym, subst, ap, List}
use Rattle.column_family.specs.declared.batch.Row.{Row}
use Rattle.store.specs.Crowded.{Listed, AreListed}
use Rattle.store.proofs.applied.Listed.{all_kept, all_ranges_kept, crowded_listed, listed_alike, AreCollected, AreRangesCollected}
use Rattle.store.proofs.crowded.collect_crowded.Goals as goal

pub returns-clause-kept : goal.returns-clause-kept
returns-clause-kept c = λ listed.
    let olds = c.args.rows.now.entries in
    let news = c.collect_listed.new.rows.entries in
    let own = subst (λ (rows : List Row). AreListed rows olds) (sym (ap (λ (x : Listed). x.rows) c.crowded.view_is)) listed in
    all_kept c.args.time c.list_once.new.listed.items olds news
    (subst (λ (rows : List Row). AreCollected c.args.time rows olds news) c.deref.ensures.value c.collect_listed.ensures.versions)
    (listed_alike c.crowded.inside.rows.items c.list_once.new.listed.items olds c.list_once.ensures own)

pub returns-clause-ranges : goal.returns-clause-ranges
returns-clause-ranges c = λ listed.
    let olds = c.args.rows.now.entries in
    let news = c.collect_listed.new.rows.entries in
    let own = subst (λ (rows : List Row). AreListed rows olds) (sym (ap (λ (x : Listed). x.rows) c.crowded.view_is)) listed in
    all_ranges_kept c.args.time c.list_once.new.listed.items olds news
    (subst (λ (rows : List Row). AreRangesCollected c.args.time rows olds news) c.deref.ensures.value c.collect_listed.ensures.ranges)
    (listed_alike c.crowded.inside.rows.items c.list_once.new.listed.items olds c.list_once.ensures own)

pub returns-clause-listed : goal.returns-clause-listed
returns-clause-listed c = λ listed.
    let olds = c.args.rows.now.entries in
    let news = c.collect_listed.new.rows.entries in
    let own = subst (λ (rows : List Row). AreListed rows olds) (sym (ap (λ (x : Listed). x.rows) c.crowded.view_is)) listed in
    crowded_listed c.args.time c.list_once.new.listed.items c.keep_crowded.new.listed.items olds news c.keep_crowded.ensures
    (subst (λ (rows : List Row). AreCollected c.args.time rows olds news) c.deref.ensures.value c.collect_listed.ensures.versions)
    (subst (λ (rows : List Row). AreRangesCollected c.args.time rows olds news) c.deref.ensures.value c.collect_listed.ensures.ranges)
    (listed_alike c.crowded.inside.rows.items c.list_once.new.listed.items olds c.list_once.ensures own)
