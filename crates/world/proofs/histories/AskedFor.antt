-- What one gets by asking a world's shards is the history of the run.
use Rattle.std.proofs.Common.{◌≡◌, ◌∙◌, ℕ, zero, suc, ◌+◌, ◌*◌, ◌<◌, ◌≤◌, List, [], ◌∷◌, ◌++◌, map, length, slice_get, take, take_all, Option, Some, None, Result, Ok, Err, refl, sym, ap, subst, arith}
use Rattle.std.specs.Prelude.{IfOk, filter_map, option_to_list, option_map, option_and_then}
use Rattle.std.specs.List.{cons_option}
use Rattle.logical_time.specs.declared.fault.Fault.{Fault}
use Rattle.logical_time.specs.Stamps.{TxnValue, StampValue}
use Rattle.column_family.specs.declared.batch.Change.{Change}
use Rattle.column_family.specs.declared.batch.Committed.{Committed}
use Rattle.column_family.specs.Normal.{committed}
use Rattle.planner.specs.Plan.{coordinator_of}
use Rattle.messages.specs.Home.{HomeValue}
use Rattle.messages.specs.Topology.{TopologyValue, shard_node}
use Rattle.messages.specs.Shard.{ShardState, Decision}
use Rattle.messages.specs.Known.{decision_of}
use Rattle.shard.specs.declared.kept.ShardKept.{ShardKept}
use Rattle.shard.specs.Kept as shard
use Rattle.world.specs.declared.actors.Actors.{Actors}
use Rattle.world.specs.declared.log.Log.{Log}
use Rattle.world.specs.declared.written.Written.{Written}
use Rattle.world.specs.Run.{Run, Submission, run}
use Rattle.world.specs.Histories.{batch_in, IsHistory}
use Rattle.world.specs.Lookups.{entry_asked}
use Rattle.world.specs.Asked.{write_of, write_noted, entry_by, entry_of, entry_at}
use Rattle.world.specs.Entries.{named_by}
use Rattle.world.specs.Holds.{AreShards, Holds}
use Rattle.world.specs.World.{WorldValue, run_of}
use Rattle.world.proofs.envelopes.Addresses.{stands}
use Rattle.world.proofs.histories.AskedHistory.{histories_are_asked}

told_is : (batch : List Change) (o : Option Decision) (told : Option (ℕ × StampValue)) → option_map (λ (d : Decision). (d.commit, d.stamp)) o ≡ told
    → entry_by batch told ≡ option_map (λ (d : Decision). committed batch d.stamp d.commit) o
told_is batch None told e = ap (entry_by batch) (sym e)
told_is batch (Some d) told e = ap (entry_by batch) (sym e)

-- the entry by what the coordinator told
pub entry_told : (top : TopologyValue) (states : ℕ → ShardState) (dc : ℕ) (x : Written) (batch : List Change) (told : Option (ℕ × StampValue)) → batch ≡ x.batch
    → option_map (λ (d : Decision). (d.commit, d.stamp)) (decision_of x.txn (states (shard_node top dc (coordinator_of top.shards batch)))) ≡ told
    → entry_by batch told ≡ entry_at top states dc x
entry_told top states dc x batch told is e =
    told_is batch (decision_of x.txn (states (shard_node top dc (coordinator_of top.shards batch)))) told e
    ∙ ap (λ (b : List Change). entry_of top states dc (x.txn, b)) is

-- one more write is asked for
pub one_more_asked : (f : Written → Option Committed) (xs : List Written) (k : ℕ) (x : Written) (h g : List Committed) (o : Option Committed) → slice_get xs k ≡ Some x
    → h ≡ filter_map f (take k xs) → o ≡ f x → g ≡ h ++ option_to_list o → g ≡ filter_map f (take (k + 1) xs)
one_more_asked f xs k x h g o at is same added =
    added ∙ ap (λ l. l ++ option_to_list o) is ∙ ap (λ z. filter_map f (take k xs) ++ option_to_list z) same ∙ sym (ap (λ n. filter_map f (take n xs)) (next k) ∙ longer xs k x at)
  where
    next : (n : ℕ) → n + 1 ≡ suc n
    next n = omega arith

    single : (y : Written) → filter_map f (y ∷ []) ≡ option_to_list (f y)
    single y = go (f y)
      where
        go : (z : Option Committed) → cons_option z [] ≡ option_to_list z
        go None = refl
        go (Some c) = refl

    onto : (z : Option Committed) (l m : List Committed) → cons_option z (l ++ m) ≡ cons_option z l ++ m
    onto None l m = refl
    onto (Some c) l m = refl

    longer : (ys : List Written) (j : ℕ) (y : Written) → slice_get ys j ≡ Some y → filter_map f (take (suc j) ys) ≡ filter_map f (take j ys) ++ option_to_list (f y)
    longer [] j y e = absurd (cc)
    longer (z ∷ ys) zero y e = let q : z ≡ y = cc in ap (λ v. filter_map f (v ∷ [])) q ∙ single y
    longer (z ∷ ys) (suc j) y e = ap (cons_option (f z)) (longer ys j y e) ∙ onto (f z) (filter_map f (take j ys)) (option_to_list (f y))

-- by what is noted of the writes, or by the submissions
noted_alike : (f : TxnValue × List Change → Option Committed) (xs : List Written) → filter_map (λ x. f (write_noted x)) xs ≡ filter_map f (map write_noted xs)
noted_alike f [] = refl
noted_alike f (x ∷ xs) = ap (cons_option (f (write_noted x))) (noted_alike f xs)

asked_alike : (top : TopologyValue) (w : Run) (dc : ℕ) (xs : List Submission) → filter_map (entry_of top w.shards dc) (filter_map write_of xs) ≡ filter_map (entry_asked top w dc) xs
asked_alike top w dc [] = refl
asked_alike top w dc (x ∷ xs) =
    first (batch_in x.op) (filter_map write_of xs) ∙ ap (λ l. cons_option (entry_asked top w dc x) l) (asked_alike top w dc xs)
  where
    first : (o : Option (List Change)) (rest : List (TxnValue × List Change)) → filter_map (entry_of top w.shards dc) (cons_option (option_map (λ (b : List Change). (named_by x, b)) o) rest)
        ≡ cons_option (option_and_then (λ (b : List Change). entry_of top w.shards dc (named_by x, b)) o) (filter_map (entry_of top w.shards dc) rest)
    first None rest = refl
    first (Some b) rest = refl

pub asked_is_history : (a : Actors) (l : Log) (dc : ℕ) (h : List Committed) → Holds a.topology a l
    → h ≡ filter_map (entry_at a.topology (run a.topology l.events.items).shards dc) l.writes.items → IsHistory a.topology (run a.topology l.events.items) dc h
asked_is_history a l dc h holds is =
    let w = run a.topology l.events.items in
    subst (IsHistory a.topology w dc)
    (sym (is ∙ noted_alike (entry_of a.topology w.shards dc) l.writes.items ∙ ap (filter_map (entry_of a.topology w.shards dc)) holds.writes ∙ asked_alike a.topology w dc w.submitted))
    (histories_are_asked a.topology l.events.items (stands a.topology holds.running.sound).some dc)

-- what the shard at the coordinator's place tells
pub decided_there : (top : TopologyValue) (states : ℕ → ShardState) (home : HomeValue) (xs : List ShardKept) (batch : List Change) (txn : TxnValue) (place number : ℕ) (k : ShardKept) (told : Option (ℕ × StampValue))
    → top.shards ≡ home.shards → AreShards top states xs → place ≡ home.dc * home.shards + number → number ≡ coordinator_of home.shards batch → slice_get xs place ≡ Some k
    → ((t : TopologyValue) (me : ℕ) (a : ShardState) → shard.Represents t me k a → option_map (λ (d : Decision). (d.commit, d.stamp)) (decision_of txn a) ≡ told)
    → option_map (λ (d : Decision). (d.commit, d.stamp)) (decision_of txn (states (shard_node top home.dc (coordinator_of top.shards batch)))) ≡ told
decided_there top states home xs batch txn place number k told e are at is there decides =
    let node : shard_node top home.dc (coordinator_of top.shards batch) ≡ place =
    ap (λ n. home.dc * n + coordinator_of n batch) e ∙ ap (λ m. home.dc * home.shards + m) (sym is) ∙ sym at in
    ap (λ n. option_map (λ (d : Decision). (d.commit, d.stamp)) (decision_of txn (states n))) node ∙ decides top place (states place) (are.each place k there)

-- what is asked of a world is the history of its run
pub listed : (v : WorldValue) (a : Actors) (l : Log) (dc : ℕ) (home : HomeValue) (xs : List ShardKept) (ws : List Written) (r : Result (List Committed) Fault) → Holds a.topology a l
    → record { top = a.topology; events = l.events.items } ≡ v → home ≡ record { dc = dc; shards = a.topology.shards } → xs ≡ a.shards.items → ws ≡ l.writes.items
    → ((top : TopologyValue) (states : ℕ → ShardState) → top.shards ≡ home.shards → AreShards top states xs → IfOk r (λ h. h ≡ filter_map (entry_at top states home.dc) ws))
    → IfOk r (λ h. IsHistory v.top (run_of v) dc h)
listed v a l dc home xs ws (Err e) holds is at shards writes asked = tt
listed v a l dc home xs ws (Ok h) holds is at shards writes asked =
    let w = run a.topology l.events.items in
    let q = asked a.topology w.shards (ap (λ (z : HomeValue). z.shards) (sym at)) (subst (AreShards a.topology w.shards) (sym shards) holds.running.shards) in
    let p = q ∙ ap (λ (z : HomeValue). filter_map (entry_at a.topology w.shards z.dc) ws) at ∙ ap (filter_map (entry_at a.topology w.shards dc)) writes in
    subst (λ (z : WorldValue). IsHistory z.top (run_of z) dc h) is (asked_is_history a l dc h holds p)

pub all_asked : {X : Type 0} (xs : List X) (k : ℕ) → length xs ≤ k → take k xs ≡ xs
all_asked xs k le = take_all k xs le

pub within_home : (dc shards number place n : ℕ) → place ≡ dc * shards + number → number < shards → dc * shards + shards ≤ n → place < n
within_home dc shards number place n at below le = omega arith
