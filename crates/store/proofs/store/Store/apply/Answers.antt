use Rattle.std.proofs.Common.{rules, ◌≡◌, ◌∙◌, ap, subst, refl, List}
use Rattle.versions.specs.declared.range.RangeDeletion.{RangeDeletion}
use Rattle.store.specs.declared.origin.Origin.{Origin}
use Rattle.store.specs.declared.part.Applied.{Applied}
use Rattle.store.specs.Stored.{StoreValue, HaveSameVersions, HaveSameRanges, HavePut, ranges_in, ranges_written, put_all_ranges}
use Rattle.store.proofs.applied.KeepsApplied.{keeps_applied}
use Rattle.store.proofs.applied.Lasting.{keeps_same}
use Rattle.store.proofs.store.Store.apply.Goals as goal

pub returns-in-Err-clause-kept : goal.returns-in-Err-clause-kept
returns-in-Err-clause-kept c = λ all keeps.
    let new : StoreValue = record { rows = c.reserve_all.new.rows.entries; low = c.self.inside.low; listing = c.reserve_all.new.crowded.room } in
    keeps_same c.args.self.now new all (ap (λ (k : StoreValue). k.low) c.self.view_is)
    (subst (λ (k : StoreValue). HaveSameVersions k.rows new.rows) c.self.view_is c.reserve_all.ensures.versions)
    (subst (λ (k : StoreValue). HaveSameRanges k.rows new.rows) c.self.view_is c.reserve_all.ensures.ranges) keeps

pub returns-clause-ranges : goal.returns-clause-ranges
returns-clause-ranges c = λ r.
    let o : Origin = record { writer = c.args.prepared.part.writer; stamp = c.args.stamp; evt = c.args.commit } in
    c.put_part.ensures.ranges r
    ∙ ap (λ (xs : List RangeDeletion). put_all_ranges xs (ranges_written o r c.args.prepared.part.batch))
    (subst (λ (k : StoreValue). (ranges_in c.reserve_all.new.rows.entries r).ranges ≡ (ranges_in k.rows r).ranges) c.self.view_is (c.reserve_all.ensures.ranges r))

pub returns-clause-keeps : goal.returns-clause-keeps
returns-clause-keeps c = λ all keeps normal fresh.
    let new : StoreValue = record { rows = c.put_part.new.rows.entries; low = c.self.inside.low; listing = c.put_part.new.crowded.room } in
    let o : Origin = record { writer = c.args.prepared.part.writer; stamp = c.args.stamp; evt = c.args.commit } in
    let a : Applied = record { part = c.args.prepared.part; commit = c.args.commit; stamp = c.args.stamp } in
    let put : HavePut o c.args.prepared.part.batch c.args.self.now.rows new.rows = search rules in
    let ranges = returns-clause-ranges c in
    keeps_applied c.args.self.now new all a o (ap (λ (k : StoreValue). k.low) c.self.view_is) refl put ranges normal fresh keeps

pub returns-clause-put : goal.returns-clause-put
returns-clause-put c = search rules
