-- Data centres that committed the same batches have one table, at each time that isn't below the commit times of both.
use Rattle.std.proofs.Common.{◌≡◌, ◌∙◌, ℕ, ◌≤◌, sym, ap, subst, refl, Bool, true, false, nat_le, List, Option, Some, None, arith}
use Rattle.std.specs.Prelude.{Contains, option_map}
use Rattle.std.proofs.lemmas.Bool.Decides.{nat_tests}
use Rattle.std.proofs.lemmas.List.Sorted.{Contains-permutation, IsPermutation-sym}
use Rattle.logical_time.specs.Stamps.{StampValue, TxnValue, is_older}
use Rattle.column_family.specs.declared.batch.Change.{Change}
use Rattle.column_family.specs.declared.batch.Committed.{Committed}
use Rattle.column_family.specs.declared.batch.Mutation.{Mutation}
use Rattle.column_family.specs.Location.{Location, touches}
use Rattle.column_family.specs.History.{History, Stamped, up_to, last_of, newest_of}
use Rattle.slice.specs.Parts.{AreStampedApart}
use Rattle.slice.proofs.SameNewest.{IsNewest, neither_older, newest_none, newest_some}
use Rattle.store.proofs.lists.Lists.{kept, kept_only}
use Rattle.messages.specs.Topology.{TopologyValue}
use Rattle.messages.specs.Shard.{Decision}
use Rattle.world.specs.Run.{Run, Submission}
use Rattle.world.specs.Histories.{history_of, IsHistory}
use Rattle.world.specs.Settled.{IsCommittedIn, AreEqualTables}
use Rattle.world.proofs.safety.Facts.{IsWritten, lead, IsStamp}
use Rattle.world.proofs.safety.Invariant.{Inv}
use Rattle.world.proofs.safety.OneBatch.{written_at, submitted_one, batch_one}
use Rattle.world.proofs.histories.DecidedIn.{decided_in, entry, entry_among, entry_is, one_each}

-- ## Two histories with the same batches and stamps

-- each mutation of the first history stands in the second, with its stamp
abbrev pub HasStamped : (Change → Bool) → History → History → Type 0
HasStamped q h g =
    (c : Committed) (m : Mutation) → Contains h c → last_of q c.batch ≡ Some m
    → (d : Committed) × Contains g d × (d.stamp ≡ c.stamp) × (last_of q d.batch ≡ Some m)

none_both : (q : Change → Bool) (h g : History) (x : Stamped) → HasStamped q h g → newest_of q g ≡ None → IsNewest q h x → ⊥
none_both q h g x into e n =
    let d = into n.entry x.mutation n.among n.mutation in
    let none = newest_none q g e d.0 d.1 in
    let some = d.3 in
    cc

one_newest : (q : Change → Bool) (h g : History) (x y : Stamped) → HasStamped q h g → HasStamped q g h → AreStampedApart h → IsNewest q h x → IsNewest q g y
    → x.mutation ≡ y.mutation
one_newest q h g x y into back one n k =
    let d = into n.entry x.mutation n.among n.mutation in
    let c = back k.entry y.mutation k.among k.mutation in
    let over : is_older y.stamp x.stamp ≡ false = ap (λ (s : StampValue). is_older y.stamp s) (sym (d.2 ∙ n.stamp)) ∙ k.top d.0 x.mutation d.1 d.3 in
    let under : is_older x.stamp y.stamp ≡ false = ap (λ (s : StampValue). is_older x.stamp s) (sym (c.2 ∙ k.stamp)) ∙ n.top c.0 y.mutation c.1 c.3 in
    let stamp : x.stamp ≡ y.stamp = neither_older x.stamp y.stamp under over in
    let same : n.entry ≡ c.0 = one n.entry c.0 n.among c.1 (n.stamp ∙ stamp ∙ sym (c.2 ∙ k.stamp)) in
    let some : Some x.mutation ≡ Some y.mutation = sym n.mutation ∙ ap (λ (e : Committed). last_of q e.batch) same ∙ c.3 in
    cc

same_mutation : (q : Change → Bool) (h g : History) → HasStamped q h g → HasStamped q g h → AreStampedApart h
    → option_map (λ (s : Stamped). s.mutation) (newest_of q h) ≡ option_map (λ (s : Stamped). s.mutation) (newest_of q g)
same_mutation q h g into back one = go (newest_of q h) (newest_of q g) refl refl
  where
    go : (a b : Option Stamped) → newest_of q h ≡ a → newest_of q g ≡ b
        → option_map (λ (s : Stamped). s.mutation) a ≡ option_map (λ (s : Stamped). s.mutation) b
    go None None e f = refl
    go (Some x) None e f = absurd (none_both q h g x into f (newest_some q h x e))
    go None (Some y) e f = absurd (none_both q g h y back e (newest_some q g y f))
    go (Some x) (Some y) e f = ap Some (one_newest q h g x y into back one (newest_some q h x e) (newest_some q g y f))

-- ## A transaction has one stamp, in all data centres

stamp_at : {top : TopologyValue} {w : Run} {b c : Submission} {batch other : List Change} {s : StampValue} → b ≡ c → batch ≡ other
    → IsStamp top w b batch s → IsStamp top w c other s
stamp_at {top} {w} {b} {c} {batch} {other} {s} p q k = subst (λ z. IsStamp top w z other s) p (subst (λ z. IsStamp top w b z s) q k)

one_stamp_of : (top : TopologyValue) (w : Run) → Inv top w → (b : Submission) (batch : List Change) (s u : StampValue) → IsStamp top w b batch s
    → IsStamp top w b batch u → s ≡ u
one_stamp_of top w inv b batch s u k h =
    let sound = (inv.shards (lead top b.home batch)).decided h.decided.decision h.decided.among in
    let same = sound.one k.decided.decision k.decided.among (k.decided.txn ∙ sym h.decided.txn) in
    sym k.decided.stamp ∙ ap (λ (d : Decision). d.stamp) same ∙ h.decided.stamp

-- ## The tables of two data centres

module _ (top : TopologyValue) (w : Run) (inv : Inv top w) (time : ℕ) (l : Location) where
  -- what one data centre committed stands in the history of another that committed it by the time
  across : (dc other : ℕ) (h g : History) → IsHistory top w dc h → IsHistory top w other g
      → ((t : TxnValue) (b : Submission) (batch : List Change) → IsWritten w t b batch → IsCommittedIn top w other t)
      → ((c : Committed) → Contains g c → c.commit ≤ time) → HasStamped (touches l) (up_to time h) (up_to time g)
  across dc other h g is was all early c m has e =
      let f = kept_only (λ (a : Committed). nat_le a.commit time) h c has in
      let k = entry_is top w inv dc c (Contains-permutation h (history_of top w dc) c is f.0) in
      let from = k.decided.sound in
      let d = all k.decision.txn from.submission from.batch from.written in
      let there = d.1 in
      let to = decided_in top w inv other d.0 there in
      let v : IsWritten w k.decision.txn to.sound.submission to.sound.batch = written_at d.2 to.sound.written in
      let b = submitted_one inv.submitted v from.written in
      let batch = batch_one inv.submitted v from.written in
      let stamp = one_stamp_of top w inv from.submission from.batch d.0.stamp k.decision.stamp (stamp_at b batch to.sound.stamp) from.stamp in
      let r = entry d.0 to.sound.batch in
      let in_there = entry_among top w inv other d.0 there to in
      let in_g : Contains g r = (Contains-permutation (history_of top w other) g r (IsPermutation-sym g (history_of top w other) was)
      in_there) in
      let le = early r in_g in
      let low : nat_le r.commit time ≡ true = grind (arith, nat_tests) in (
        r,
        kept (λ (a : Committed). nat_le a.commit time) g r in_g low,
        stamp ∙ sym k.stamp,
        ap (last_of (touches l)) (batch ∙ sym k.batch) ∙ e,
      )

  one_by : (dc : ℕ) (h : History) → IsHistory top w dc h → AreStampedApart (up_to time h)
  one_by dc h is c d mc md =
      let from = λ (e : Committed) (m : Contains (up_to time h) e).
      Contains-permutation h (history_of top w dc) e is (kept_only (λ (a : Committed). nat_le a.commit time) h e m).0 in
      one_each top w inv dc c d (from c mc) (from d md)

pub equal_tables : (top : TopologyValue) (w : Run) → Inv top w → (dc other : ℕ)
    → ((t : TxnValue) (b : Submission) (batch : List Change) → IsWritten w t b batch → IsCommittedIn top w dc t × IsCommittedIn top w other t)
    → AreEqualTables top w dc other
equal_tables top w inv dc other all time h g l is was early late =
    same_mutation (touches l) (up_to time h) (up_to time g)
    (across top w inv time l dc other h g is was (λ t b batch k. (all t b batch k).1) (λ c m. late c m))
    (across top w inv time l other dc g h was is (λ t b batch k. (all t b batch k).0) (λ c m. early c m))
    (one_by top w inv time l dc h is)
