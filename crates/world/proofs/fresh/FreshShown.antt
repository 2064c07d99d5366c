-- What a shard had applied to an asked location is covered by the row's earliest valid time: from it on, the table of the
-- shard's data centre shows nothing older there.
use Rattle.std.proofs.Common.{◌≡◌, ◌∙◌, ℕ, ◌<◌, ◌≤◌, sym, ap, refl, Bool, true, false, nat_le, List, Option, Some, None, arith, leb-true}
use Rattle.std.specs.Prelude.{is_some, Contains}
use Rattle.std.specs.List.{list_any}
use Rattle.logical_time.specs.Stamps.{StampValue, is_older}
use Rattle.column_family.specs.declared.batch.Row.{Row}
use Rattle.column_family.specs.declared.batch.Change.{Change}
use Rattle.column_family.specs.declared.batch.Committed.{Committed}
use Rattle.column_family.specs.declared.batch.Mutation.{Mutation}
use Rattle.column_family.specs.Location.{Location, touches}
use Rattle.column_family.specs.History.{up_to, last_of}
use Rattle.column_family.specs.Places.{normal_of}
use Rattle.slice.specs.declared.predicate.Predicate.{Predicate}
use Rattle.slice.specs.Slice.{is_asked}
use Rattle.slice.proofs.LiveTable.{at}
use Rattle.slice.proofs.SameNewest.{newest_some, no_newer}
use Rattle.slice.proofs.RowTests.{touches_test, last_alike}
use Rattle.store.specs.declared.part.Applied.{Applied}
use Rattle.store.specs.Part.{committed_of as part_entry, history_of as parts_of, applied_by, evt_of}
use Rattle.store.specs.Keeps.{AreApart}
use Rattle.slice.proofs.Changed.{some_last}
use Rattle.store.proofs.times.FromEvt.{touch_agrees}
use Rattle.store.proofs.newest.Newer.{not_older_trans}
use Rattle.planner.specs.Partition.{shard_of as shard_of_key}
use Rattle.messages.specs.Topology.{TopologyValue, dc_of, shard_of}
use Rattle.world.specs.Run.{Run}
use Rattle.world.specs.Histories.{history_of}
use Rattle.world.specs.Fresh.{IsNoOlder}
use Rattle.world.proofs.lists.Members.{contains_map, mapped_from, contains_filter, filter_contains}
use Rattle.world.proofs.safety.Invariant.{Inv}
use Rattle.world.proofs.safety.Facts.{part_on}
use Rattle.world.proofs.envelopes.PartRows.{part_changes}
use Rattle.world.proofs.histories.DecidedIn.{applied_in, entry, entry_among}

-- a batch with a change of the location has a last one there
last_there : (q : Change → Bool) (cs : List Change) → list_any q cs ≡ true → (m : Mutation) × (last_of q cs ≡ Some m)
last_there q cs e = go (last_of q cs) refl
  where
    go : (o : Option Mutation) → last_of q cs ≡ o → (m : Mutation) × (last_of q cs ≡ Some m)
    go None f = let none = sym (some_last q cs ∙ e) ∙ ap is_some f in absurd (cc)
    go (Some m) f = (m, f)

-- a part that was applied, committed by the time, that touches the location and isn't older than the given one
pub record IsCover (all : List Applied) (l : Location) (time : ℕ) (x : Applied) : Type 0 where
  pub part : Applied
  pub among : Contains all part
  pub commit : part.commit ≤ time
  pub mutation : Mutation
  pub last : last_of (touches l) part.part.batch ≡ Some mutation
  pub newer : is_older part.stamp x.stamp ≡ false

-- what touches an asked location is covered by the time of the row's newest versions
pub covered : (all : List Applied) (row : Row) (p : Predicate) (name : List ℕ) (time : ℕ) (x : Applied) → AreApart all
    → evt_of (parts_of all) row p ≤ time
    → is_asked p name ≡ true → Contains all x → list_any (touches (at row name)) x.part.batch ≡ true → IsCover all (at row name) time x
covered all row p name time x apart le asked has touched =
    let q = touches (at row name) in
    let own = last_there q x.part.batch touched in
    let n = no_newer q (parts_of all) (part_entry x) own.0 (contains_map part_entry all x has) own.1 in
    let by = newest_some q (parts_of (applied_by time all)) n.0 (sym (touch_agrees all row p time apart le name asked) ∙ n.1) in
    let r = mapped_from part_entry (applied_by time all) by.entry by.among in
    let f = filter_contains (λ (a : Applied). nat_le a.commit time) all r.0 r.1 in
    record {
      part = r.0;
      among = f.0;
      commit = leb-true r.0.commit time f.1;
      mutation = n.0.mutation;
      last = ap (λ (c : Committed). last_of q c.batch) (sym r.2) ∙ by.mutation;
      newer = ap (λ (s : StampValue). is_older s x.stamp) (ap (λ (c : Committed). c.stamp) (sym r.2) ∙ by.stamp) ∙ n.2;
    }

-- and so the table of the data centre shows nothing older there
pub shown : (top : TopologyValue) (w : Run) → Inv top w → 0 < top.shards → (node : ℕ) (row : Row) (name : List ℕ)
    → shard_of_key top.shards row.key ≡ shard_of top node
    → (time : ℕ) (x : Applied) → IsCover (w.shards node).applied (at row name) time x → IsNoOlder top w (dc_of top node) time (at row name) x
shown top w inv some node row name here time x is =
    let q = touches (at row name) in
    let v = is.part in
    let own = applied_in top w inv some node v ((inv.shards node).applied v is.among) in
    let batch = own.decided.sound.batch in
    let d = entry own.decision batch in
    let le = is.commit in
    let low : nat_le own.decision.commit time ≡ true = ap (λ (n : ℕ). nat_le n time) own.commit ∙ grind arith in
    let entered = entry_among top w inv (dc_of top node) own.decision own.among own.decided in
    let has = contains_filter (λ (c : Committed). nat_le c.commit time) (history_of top w (dc_of top node)) d entered low in
    let last : last_of q batch ≡ Some is.mutation =
    sym (last_alike row q (touches_test (at row name)) (part_on top batch node) batch (part_changes top.shards (shard_of top node) row here (normal_of batch)))
    ∙ ap (last_of q) (sym own.batch) ∙ is.last in
    let n = no_newer q (up_to time (history_of top w (dc_of top node))) d is.mutation has last in
    (n.0, n.1, not_older_trans n.0.stamp v.stamp x.stamp (ap (λ (s : StampValue). is_older n.0.stamp s) (sym own.stamp) ∙ n.2) is.newer)
