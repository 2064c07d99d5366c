use Rattle.std.proofs.Common.{rules, ◌≡◌, ◌∙◌, sym, take, false}
use Rattle.std.specs.BTreeSet.{contains}
use Rattle.logical_time.specs.Stamps.{stamp_cmp}
use Rattle.audit.specs.Laid.{all_applied}
use Rattle.audit.proofs.Stamps.{applied_more, seen_more}
use Rattle.audit.proofs.laid.store_of.Goals as goal

pub loop-entry-preserved : goal.loop-entry-preserved
loop-entry-preserved c =
    let entries = c.args.entries.now in
    let index = c.loop-entry.entry-index in
    let entry = c.entry-item.result in
    let inv = c.loop-entry.invariant in
    let absent : contains stamp_cmp c.loop-entry.seen entry.stamp ≡ false = search rules in
    record {
      applied = applied_more entries index entry c.loop-entry.store c.apply.new.store c.loop-entry-test.true c.entry-item.is inv.applied
          (c.in_ok-apply.ensures.keeps (all_applied (take index entries)) inv.applied.keeps (sym (inv.seen entry.stamp) ∙ absent)) c.in_ok-apply.ensures.low;
      seen = λ s. seen_more entries index entry s (contains stamp_cmp c.loop-entry.seen s) (contains stamp_cmp c.insert.new.self s)
          c.loop-entry-test.true c.entry-item.is (inv.seen s) (c.in_ok-insert.ensures.updates.0 s);
    }
