-- Where messages go: what is for a shard goes to one, Done goes to a session, and DepOk to either.
use Rattle.std.proofs.Common.{◌≡◌, ℕ, ◌*◌, ◌<◌, Bool, true, false, ◌&&◌, length, slice_get, Option, Some, None, ◌⊎◌, inl, inr, refl, sym, ap, ◌∙◌, subst, arith, leb-true, ltb-true}
use Rattle.std.specs.Prelude.{nat_le, nat_lt, option_and_then, Contains}
use Rattle.std.specs.List.{list_all}
use Rattle.std.specs.Option.{unwrap_or}
use Rattle.std.proofs.lemmas.Bool.{false≢true, and_parts}
use Rattle.std.proofs.lemmas.Bool.Decides.{nat_tests}
use Rattle.std.proofs.lemmas.Nat.{div_below}
use Rattle.logical_time.specs.Stamps.{TxnValue}
use Rattle.messages.specs.declared.body.Body.{Body}
use Rattle.messages.specs.declared.body.Body.TheVariants.{Begin, Prepare, Yes, Commit, Read as ReadNow, ReadAt, ReplBegin, ReplPart, Notify, PrepareRemote, DepCheck, Done}
use Rattle.messages.specs.Topology.{TopologyValue, is_topology, dc_of, shard_of, is_shard, is_session, session_of}
use Rattle.messages.specs.Shard.{new_shard}
use Rattle.messages.proofs.Numbering.{shard_again, shard_is_shard}
use Rattle.world.specs.Run.{Run}
use Rattle.world.proofs.lists.Members.{none_in_empty, contains_get, all_have}
use Rattle.world.proofs.safety.Invariant.{home, Says, Inv}
use Rattle.world.proofs.envelopes.Near.{shard_below}
use Rattle.world.proofs.envelopes.About.{kind_of}
use Rattle.world.proofs.under_way.Underway.{WaitsFor, of_ballot, of_moving, Knows, AtOrigin, SaysLive, Live}
use Rattle.world.proofs.under_way.LiveHeard.{is_for_shard}
use Rattle.world.proofs.envelopes.Stations.{Stations}

-- ## Numbers

pub dc_shard : (top : TopologyValue) (node : ℕ) → 0 < top.shards → dc_of top node < top.dcs → is_shard top node ≡ true
dc_shard top node some lt =
    subst (λ m. is_shard top m ≡ true) (shard_again top node) (shard_is_shard top (dc_of top node) (shard_of top node) lt (shard_below top node some))

-- a shard is of a data centre that there is
pub shard_dc : (top : TopologyValue) (node : ℕ) → 0 < top.shards → is_shard top node ≡ true → dc_of top node < top.dcs
shard_dc top node some is = div_below node top.shards top.dcs some (ltb-true node (top.dcs * top.shards) is)

no_session : (top : TopologyValue) (node : ℕ) → is_shard top node ≡ true → is_session top node ≡ false
no_session top node e = grind (arith, nat_tests)

pub shard_no_session : (top : TopologyValue) (node : ℕ) → is_shard top node ≡ true → is_session top node ≡ false
shard_no_session top node e = no_session top node e

-- a topology has data centres and shards, and each home is one of its data centres
pub record Stands (top : TopologyValue) : Type 0 where
  pub some : 0 < top.shards
  pub home : (node : ℕ) → home top node < top.dcs

pub stands : (top : TopologyValue) → is_topology top.dcs top.shards top.homes ≡ true → Stands top
stands top e =
    let p = and_parts (nat_le 1 top.dcs && nat_le top.dcs 4 && nat_le 1 top.shards && nat_le top.shards 8 && nat_le 1 (length top.homes) && nat_le
    (length top.homes) 10000) (list_all (λ d. nat_lt d top.dcs) top.homes) e in
    let a = and_parts (nat_le 1 top.dcs && nat_le top.dcs 4 && nat_le 1 top.shards && nat_le top.shards 8 && nat_le 1 (length top.homes))
    (nat_le (length top.homes) 10000) p.0 in
    let b = and_parts (nat_le 1 top.dcs && nat_le top.dcs 4 && nat_le 1 top.shards && nat_le top.shards 8) (nat_le 1 (length top.homes)) a.0 in
    let c = and_parts (nat_le 1 top.dcs && nat_le top.dcs 4 && nat_le 1 top.shards) (nat_le top.shards 8) b.0 in
    let d = and_parts (nat_le 1 top.dcs && nat_le top.dcs 4) (nat_le 1 top.shards) c.0 in
    let dcs = (and_parts (nat_le 1 top.dcs) (nat_le top.dcs 4) d.0).0 in
    record { some = above top.shards d.1; home = λ node. by (above top.dcs dcs) p.1 (session_of top node) }
  where
    above : (n : ℕ) → nat_le 1 n ≡ true → 0 < n
    above n q = leb-true 1 n q

    of : 0 < top.dcs → list_all (λ d. nat_lt d top.dcs) top.homes ≡ true → (o : Option ℕ) → ((d : ℕ) → o ≡ Some d → Contains top.homes d)
        → unwrap_or o 0 < top.dcs
    of lt all None f = lt
    of lt all (Some d) f = let t = all_have (λ d. nat_lt d top.dcs) top.homes d all (f d refl) in ltb-true d top.dcs t

    by : 0 < top.dcs → list_all (λ d. nat_lt d top.dcs) top.homes ≡ true → (o : Option ℕ)
        → unwrap_or (option_and_then (λ i. slice_get top.homes i) o) 0 < top.dcs
    by lt all None = lt
    by lt all (Some i) = of lt all (slice_get top.homes i) (contains_get top.homes i)

module _ (top : TopologyValue) (w : Run) (some : 0 < top.shards) (inv : Inv top w) (live : Live top w) (stations : Stations top w) where
  origin_shard : (node : ℕ) (t : TxnValue) → AtOrigin top w node t → is_shard top node ≡ true
  origin_shard node t o =
      dc_shard top node some (subst (λ d. d < top.dcs) (sym o.here) (live.submitted o.submission o.batch o.written.among o.written.op).home)

  -- only shards have prepared or decided something
  pub known_shard : (node : ℕ) (t : TxnValue) → Knows (w.shards node) t → is_shard top node ≡ true
  known_shard node t k = go (is_shard top node) refl
    where
      none : Knows new_shard t → ⊥
      none (inl p) = none_in_empty p.0 p.1
      none (inr d) = none_in_empty d.0 d.1

      go : (b : Bool) → is_shard top node ≡ b → is_shard top node ≡ true
      go true e = e
      go false e = absurd (none (subst (λ a. Knows a t) (stations.shards node e) k))

  -- what is for a shard goes to one
  pub to_shard : (from to time : ℕ) (b : Body) → Says top w from to time b → SaysLive top w from to (kind_of b) → is_for_shard (kind_of b) ≡ true
      → is_shard top to ≡ true
  to_shard from to time (Begin t rows cohorts dependencies) s k e =
      dc_shard top to some (subst (λ d. d < top.dcs) (sym s.stamp) (live.submitted s.submission s.batch s.written.among s.written.op).home)
  to_shard from to time (Prepare t rows coordinator) s k e = origin_shard to t k.1
  to_shard from to time (Yes t) s k e = elim (k.0) [ inl o ↦ origin_shard to t o | inr y ↦ known_shard to t y ]
  to_shard from to time (Commit t commit stamp) s k e = known_shard to t (inl k.0)
  to_shard from to time (ReadNow number read) s k e = dc_shard top to some k.1
  to_shard from to time (ReadAt number bound read) s k e = dc_shard top to some k.1
  to_shard from to time (ReplBegin cohorts t rows stamp dependencies) s k e = dc_shard top to some k.1
  to_shard from to time (ReplPart t rows stamp coordinator) s k e = dc_shard top to some k.2
  to_shard from to time (Notify t) s k e =
      dc_shard top to some (subst (λ d. d < top.dcs) k.2 ((live.shards from).entries.kept_parts k.0.0 k.0.1).here)
  to_shard from to time (PrepareRemote t) s k e = dc_shard top to some ((live.shards to).entries.kept_parts k.0.0 k.0.1).here
  to_shard from to time (DepCheck dependency waiter) s k e = dc_shard top to some k.1
  to_shard from to time _ s k e = absurd (false≢true e)

  -- who waits for a dependency is told: a shard or a session
  pub who_waits : (dc to : ℕ) (waiter dependency : TxnValue) → WaitsFor top w dc to waiter dependency → (is_shard top to ≡ true) ⊎ (is_session top to ≡ true)
  who_waits dc to waiter dependency (of_ballot k) = inl (dc_shard top to some ((live.shards to).entries.kept_ballots k.ballot k.among).here)
  who_waits dc to waiter dependency (of_moving b m is own moves k n q) = inr (sym (ap (is_session top) own) ∙ stations.submitted b m)

  -- a session that submitted is told
  pub done_session : (from to time : ℕ) (t : TxnValue) (commit : ℕ) (stamp : _) → Says top w from to time (Done t commit stamp) → to ≡ t.session
      → is_session top to ≡ true
  done_session from to time t commit stamp s e =
      let d = s.0.decided in
      let ds = (inv.shards from).decided d.decision d.among in
      ap (is_session top) (e ∙ sym (ap (λ z. z.session) (ds.written.txn ∙ d.txn))) ∙ stations.submitted ds.submission ds.written.among
