-- Each stamp that a message names is that of a decision.
use Rattle.std.proofs.Common.{◌≡◌, ◌∙◌, ℕ, ◌<◌, ◌≤◌, inl, inr, List, [], ◌∷◌, length, Some, refl, sym, ap, subst, arith, slice_get}
use Rattle.std.specs.Prelude.{Contains, filter_map}
use Rattle.std.proofs.lemmas.Option.{slice_get_within}
use Rattle.logical_time.specs.Stamps.{StampValue, TxnValue}
use Rattle.column_family.specs.declared.batch.Change.{Change}
use Rattle.store.proofs.lists.Lists.{given_only}
use Rattle.messages.specs.declared.body.Body.{Body}
use Rattle.messages.specs.declared.body.Body.TheVariants.{Begin, Prepare, Yes, Commit, At, NotBy, Check, Read as ReadNow, ReadAt, ReplBegin, ReplPart, Notify, PrepareRemote, DepCheck, DepOk, Done, PartNow, PartAt}
use Rattle.messages.specs.declared.envelope.Envelope.{Envelope}
use Rattle.messages.specs.Topology.{TopologyValue}
use Rattle.messages.specs.Honest.{StampedTxn}
use Rattle.messages.specs.ShardEvents.{handled}
use Rattle.shard.proofs.lists.Lists.{each_contained}
use Rattle.shard.proofs.steps.HandledCases.{IsTelling}
use Rattle.shard.proofs.steps.Sending.{handled_gives}
use Rattle.world.specs.Run.{Run, RunEvent, step, run}
use Rattle.world.specs.Named.{stamp_named, StampsAreNamed}
use Rattle.world.proofs.lists.Members.{none_in_empty, contains_get, contains_at}
use Rattle.world.proofs.growing.Growth.{Grows}
use Rattle.world.proofs.safety.Facts.{IsDecided}
use Rattle.world.proofs.safety.Invariant.{Says, Inv}
use Rattle.world.proofs.histories.Decisions.{one_stamp}
use Rattle.world.proofs.steps.EventCases.{event_cases}
use Rattle.world.proofs.growing.Prefixes.{get_added}
use Rattle.world.proofs.safety.Told.{IsMet, met_apart}
use Rattle.world.proofs.steps.SessionSends.{IsOfSession, heard_sends, begun_sends}
use Rattle.world.proofs.safety.Sendings.{was_sent, sent_then}
use Rattle.world.proofs.worked.Replayed.{runs_replayed}
use Rattle.world.proofs.safety.Runs.{every_run}
use Rattle.world.proofs.promised.Laws.{prefix_grows}

-- some shard decided the transaction with this stamp
abbrev Met : Run → TxnValue → StampValue → Type 0
Met w t stamp = IsMet w (record { txn = t; stamp = stamp })

met_so : (w : Run) (node : ℕ) (t : TxnValue) (n : ℕ) (stamp : StampValue) → IsDecided w node t n stamp → Met w t stamp
met_so w node t n stamp d = record { node = node; decision = d.decision; among = d.among; txn = d.txn; stamp = d.stamp }

-- ## What is handed on to other data centres

-- what ReplPart names was decided
abbrev PartMet : Run → Body → Type 0
PartMet w (ReplPart t rows stamp coordinator) = Met w t stamp
PartMet w other = Unit {0}

telling_met : (top : TopologyValue) (w : Run) (from to time : ℕ) (m : Body) (t : TxnValue) (commit : ℕ) (stamp : StampValue) → Says top w from to time m
    → IsTelling m t commit stamp → Met w t stamp
telling_met top w from to time m t commit stamp says (inl is) = met_so w from t commit stamp (subst (Says top w from to time) is says).0.decided
telling_met top w from to time m t commit stamp says (inr is) = met_so w from t commit stamp (subst (Says top w from to time) is says).0.decided

handed_on : (top : TopologyValue) (w : Run) (f : Envelope) (n : ℕ) → Says top w f.from f.to f.time f.body
    → (e : Envelope) → Contains (handled top f.to n (w.shards f.to) f.from f.body).sends e → PartMet w e.body
handed_on top w f n says e m =
    each_contained (λ (z : Envelope). PartMet w z.body) (handled top f.to n (w.shards f.to) f.from f.body).sends
    (handled_gives top f.to n (w.shards f.to) f.from f.body (λ z. PartMet w z.body) (λ y. Unit {0})
    (record {
      plain =
          record {
            yes = λ s t. tt;
            commit = λ s t stamp. tt;
            done = λ t stamp. tt;
            repl_begin = λ dc t rows stamp cohorts dependencies. tt;
            notify = λ s t. tt;
            prepare_remote = λ s t. tt;
            dep_check = λ s dependency waiter. tt;
            dep_ok = λ to dependency waiter commit. tt;
            check = λ s t time. tt;
          };
      less = λ y left h. tt;
      old = λ y has. tt;
      asked = λ number time read left is new. tt;
      answers = λ y h. tt;
      now = λ number read is. tt;
      at = λ t time commit stamp is. tt;
      not_by = λ t time is. tt;
      repl_part = λ dc t rows commit stamp coordinator told. telling_met top w f.from f.to f.time f.body t commit stamp says told;
    })).sends
    e m

part_sent : (top : TopologyValue) (w : Run) (x : RunEvent) (k : ℕ) (e : Envelope) (t : TxnValue) (rows : List Change) (stamp : StampValue) (coordinator : ℕ) → Inv top w
    → length w.sent ≤ k → slice_get (step top w x).sent k ≡ Some e → e.body ≡ ReplPart t rows stamp coordinator → Met w t stamp
part_sent top w x k e t rows stamp coordinator inv le sent is =
    event_cases top w x (λ v. slice_get v.sent k ≡ Some e → Met w t stamp)
    (record {
      nothing = λ g. let lt = slice_get_within w.sent k e g in absurd (omega arith);
      handled =
          λ j f n q there to g.
          subst (PartMet w) is (handed_on top w f n (inv.sent f (contains_get w.sent j f there)) e (get_added w.sent _ k e le g));
      heard =
          λ j f n q there other to g.
          absurd (subst IsOfSession is (heard_sends top f.to n (w.sessions f.to) f.from f.body e (get_added w.sent _ k e le g)).1);
      begun = λ node o n q to g. absurd (subst IsOfSession is (begun_sends top node n (w.sessions node) o e (get_added w.sent _ k e le g)).1);
      collected = λ node time n q g. absurd (none_in_empty e (get_added w.sent [] k e le g));
    })
    sent

met_later : (top : TopologyValue) (w v : Run) (t : TxnValue) (stamp : StampValue) → Grows top w v → Met w t stamp → Met v t stamp
met_later top w v t stamp g m =
    record { node = m.node; decision = m.decision; among = (g.shards m.node).decided m.decision m.among; txn = m.txn; stamp = m.stamp }

-- ## All that messages name

module _ (top : TopologyValue) (some : 0 < top.shards) (w : Run) (replayed : run top w.events ≡ w) (inv : Inv top w) where
  part_met : (e : Envelope) → Contains w.sent e → (t : TxnValue) (rows : List Change) (stamp : StampValue) (coordinator : ℕ)
      → e.body ≡ ReplPart t rows stamp coordinator → Met w t stamp
  part_met e m t rows stamp coordinator is =
      let at = contains_at w.sent e m in
      let sending = was_sent top w replayed at.0 at.2 in
      let before = sending.0 in
      let was = sending.2 in
      let met = part_sent top (run top before) sending.1 at.0 e t rows stamp coordinator (every_run top before some) was.not_sent
      (sent_then top w replayed at.0 e at.1 before sending.1 was) is in
      met_later top (run top before) w t stamp
      (subst (λ z. Grows top (run top before) z) (ap (run top) (sym was.sending) ∙ replayed) (prefix_grows top before (sending.1 ∷ was.after) some)) met

  same_met : (x : StampedTxn) (t : TxnValue) (stamp : StampValue) → Some (record { txn = t; stamp = stamp }) ≡ Some x → Met w t stamp → IsMet w x
  same_met x t stamp e m = let same : record { txn = t; stamp = stamp } ≡ x = cc in subst (IsMet w) same m

  named_met : (e : Envelope) → Contains w.sent e → (x : StampedTxn) → (b : Body) → e.body ≡ b → Says top w e.from e.to e.time b → stamp_named b ≡ Some x → IsMet w x
  named_met e m x (Commit t commit stamp) is s q = same_met x t stamp q (met_so w e.from t commit stamp s.0.decided)
  named_met e m x (At t commit stamp) is s q = same_met x t stamp q (met_so w e.from t commit stamp s.0.decided)
  named_met e m x (Done t commit stamp) is s q = same_met x t stamp q (met_so w e.from t commit stamp s.0.decided)
  named_met e m x (ReplBegin cohorts t rows stamp dependencies) is s q =
      let d = s.stamp.decided in
      same_met x t stamp q
      (record { node = _; decision = d.decision; among = d.among; txn = d.txn ∙ s.written.txn; stamp = d.stamp })
  named_met e m x (ReplPart t rows stamp coordinator) is s q = same_met x t stamp q (part_met e m t rows stamp coordinator is)
  named_met e m x (Begin t rows cohorts dependencies) is s q = absurd (cc)
  named_met e m x (Prepare t rows coordinator) is s q = absurd (cc)
  named_met e m x (Yes t) is s q = absurd (cc)
  named_met e m x (NotBy t time) is s q = absurd (cc)
  named_met e m x (Check t time) is s q = absurd (cc)
  named_met e m x (ReadNow number read) is s q = absurd (cc)
  named_met e m x (ReadAt number time read) is s q = absurd (cc)
  named_met e m x (Notify t) is s q = absurd (cc)
  named_met e m x (PrepareRemote t) is s q = absurd (cc)
  named_met e m x (DepCheck dependency waiter) is s q = absurd (cc)
  named_met e m x (DepOk dependency waiter commit) is s q = absurd (cc)
  named_met e m x (PartNow number rows) is s q = absurd (cc)
  named_met e m x (PartAt number time answer) is s q = absurd (cc)

  each_met : (x : StampedTxn) → Contains (filter_map (λ (e : Envelope). stamp_named e.body) w.sent) x → IsMet w x
  each_met x has =
      let r = given_only (λ (e : Envelope). stamp_named e.body) w.sent x has in
      let m = r.1 in
      named_met r.0 m x r.0.body refl (inv.sent r.0 m) r.2

  stamps_named_so : StampsAreNamed w
  stamps_named_so =
      record {
        decided = λ x has. (let m = each_met x has in (m.node, m.decision, m.among, m.txn, m.stamp));
        apart = λ x y m n same. met_apart top w x y inv (each_met x m) (each_met y n) same;
        one = λ x y m n same. one_txn x y (each_met x m) (each_met y n) same;
      }
    where
      one_txn : (x y : StampedTxn) → IsMet w x → IsMet w y → x.txn ≡ y.txn → x.stamp ≡ y.stamp
      one_txn x y p q same = sym p.stamp ∙ one_stamp top w p.node q.node p.decision q.decision inv p.among q.among (p.txn ∙ same ∙ sym q.txn) ∙ q.stamp

pub stamps_are_named : (top : TopologyValue) (events : List RunEvent) → 0 < top.shards → StampsAreNamed (run top events)
stamps_are_named top events some = stamps_named_so top some (run top events) (runs_replayed top events) (every_run top events some)
