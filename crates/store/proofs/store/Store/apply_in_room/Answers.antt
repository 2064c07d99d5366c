use Rattle.std.proofs.Common.{rules, ap, subst, refl}
use Rattle.store.specs.declared.origin.Origin.{Origin}
use Rattle.store.specs.declared.part.Applied.{Applied}
use Rattle.store.specs.Stored.{StoreValue, HavePut, HavePutRanges}
use Rattle.store.proofs.applied.KeepsApplied.{keeps_applied}
use Rattle.store.proofs.store.Store.apply_in_room.Goals as goal

pub returns-clause-keeps : goal.returns-clause-keeps
returns-clause-keeps c = λ all keeps normal fresh.
    let new : StoreValue = record { rows = c.put_part.new.rows.entries; low = c.self.inside.low; listing = c.put_part.new.crowded.room } in
    let o : Origin = record { writer = c.args.prepared.part.writer; stamp = c.args.stamp; evt = c.args.commit } in
    let a : Applied = record { part = c.args.prepared.part; commit = c.args.commit; stamp = c.args.stamp } in
    let put : HavePut o c.args.prepared.part.batch c.args.self.now.rows new.rows = search rules in
    let ranges : HavePutRanges o c.args.prepared.part.batch c.args.self.now.rows new.rows =
    subst (λ (k : StoreValue). HavePutRanges o c.args.prepared.part.batch k.rows new.rows) c.self.view_is c.put_part.ensures.ranges in
    keeps_applied c.args.self.now new all a o (ap (λ (k : StoreValue). k.low) c.self.view_is) refl put ranges normal fresh keeps

pub returns-clause-ranges : goal.returns-clause-ranges
returns-clause-ranges c =
    let o : Origin = record { writer = c.args.prepared.part.writer; stamp = c.args.stamp; evt = c.args.commit } in
    subst (λ (k : StoreValue). HavePutRanges o c.args.prepared.part.batch k.rows c.put_part.new.rows.entries) c.self.view_is c.put_part.ensures.ranges
