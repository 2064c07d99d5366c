use Rattle.std.proofs.Common.{rules, ap, subst}
use Rattle.store.specs.Stored.{StoreValue, HaveSameVersions, HaveSameRanges}
use Rattle.store.proofs.applied.Lasting.{keeps_same}
use Rattle.store.proofs.store.Store.make_room.Goals as goal

pub returns-clause-keeps : goal.returns-clause-keeps
returns-clause-keeps c = λ all keeps.
    let new : StoreValue = record { rows = c.reserve_all.new.rows.entries; low = c.self.inside.low; listing = c.reserve_all.new.crowded.room } in
    keeps_same c.args.self.now new all (ap (λ (k : StoreValue). k.low) c.self.view_is)
    (subst (λ (k : StoreValue). HaveSameVersions k.rows new.rows) c.self.view_is c.reserve_all.ensures.versions)
    (subst (λ (k : StoreValue). HaveSameRanges k.rows new.rows) c.self.view_is c.reserve_all.ensures.ranges) keeps

pub returns-clause-ok : goal.returns-clause-ok
returns-clause-ok c = search rules
