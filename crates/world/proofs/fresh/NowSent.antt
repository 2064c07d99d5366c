-- Each PartNow of a run is a shard's answer to a Read that was sent before, with the shard's rows as they were then.
use Rattle.std.proofs.Common.{◌≡◌, ℕ, ◌≤◌, refl, arith, Bool, true, false, [], map, length, Some, slice_get}
use Rattle.std.specs.Prelude.{Contains}
use Rattle.std.proofs.lemmas.Bool.{false≢true}
use Rattle.std.proofs.lemmas.Option.{slice_get_within}
use Rattle.slice.specs.declared.read.Read.{Read}
use Rattle.messages.specs.declared.body.Body.{Body}
use Rattle.messages.specs.declared.body.Body.TheVariants.{Begin, Prepare, Read as ReadNow, ReadAt, DepCheck, PartNow}
use Rattle.messages.specs.declared.envelope.Envelope.{Envelope}
use Rattle.messages.specs.Topology.{TopologyValue}
use Rattle.messages.specs.Words.{envelope}
use Rattle.messages.specs.Rows.{row_now}
use Rattle.messages.specs.Shard.{ShardState}
use Rattle.messages.specs.ShardEvents.{handled}
use Rattle.shard.proofs.lists.Lists.{each_contained}
use Rattle.shard.proofs.steps.Sending.{handled_gives}
use Rattle.world.specs.Run.{Run, RunEvent, step}
use Rattle.world.proofs.lists.Members.{none_in_empty, contains_get}
use Rattle.world.proofs.steps.EventCases.{event_cases}
use Rattle.world.proofs.steps.SessionSends.{IsOfSession, heard_sends, begun_sends}
use Rattle.world.proofs.growing.Prefixes.{get_added}

abbrev pub is_now : Body → Bool
is_now (PartNow number rows) = true
is_now other = false

-- ## What a shard sends

-- the answer to a Read, from the shard as it is
pub record IsAnswer (me n : ℕ) (a : ShardState) (from : ℕ) (b : Body) (e : Envelope) : Type 0 where
  pub number : ℕ
  pub read : Read
  pub asked : b ≡ ReadNow number read
  pub answer : e ≡ envelope me from n (PartNow number (map (row_now n a read) read.keys))

-- a PartNow that a shard sends is its answer to a Read
now_sent : (top : TopologyValue) (me n : ℕ) (a : ShardState) (from : ℕ) (b : Body) (e : Envelope) → Contains (handled top me n a from b).sends e
    → is_now e.body ≡ true → IsAnswer me n a from b e
now_sent top me n a from b e m =
    each_contained (λ (z : Envelope). is_now z.body ≡ true → IsAnswer me n a from b z) (handled top me n a from b).sends
    (handled_gives top me n a from b (λ z. is_now z.body ≡ true → IsAnswer me n a from b z) (λ y. Unit {0})
    (record {
      plain =
          record {
            yes = λ s t is. absurd (false≢true is);
            commit = λ s t stamp is. absurd (false≢true is);
            done = λ t stamp is. absurd (false≢true is);
            repl_begin = λ dc t rows stamp cohorts dependencies is. absurd (false≢true is);
            notify = λ s t is. absurd (false≢true is);
            prepare_remote = λ s t is. absurd (false≢true is);
            dep_check = λ s dependency waiter is. absurd (false≢true is);
            dep_ok = λ to dependency waiter commit is. absurd (false≢true is);
            check = λ s t time is. absurd (false≢true is);
          };
      less = λ y left h. tt;
      old = λ y has. tt;
      asked = λ number time read left is new. tt;
      answers = λ y h is. absurd (false≢true is);
      now = λ number read asked is. record { number = number; read = read; asked = asked; answer = refl };
      at = λ t time commit stamp asked is. absurd (false≢true is);
      not_by = λ t time asked is. absurd (false≢true is);
      repl_part = λ dc t rows commit stamp coordinator told is. absurd (false≢true is);
    })).sends
    e m

-- a session sends none
not_now : (b : Body) → IsOfSession b → is_now b ≡ true → ⊥
not_now (Begin t rows cohorts dependencies) k is = false≢true is
not_now (Prepare t rows coordinator) k is = false≢true is
not_now (ReadNow number read) k is = false≢true is
not_now (ReadAt number time read) k is = false≢true is
not_now (DepCheck dependency waiter) k is = false≢true is
not_now _ k is = absurd k

-- ## Runs

-- a shard's answer to a Read that was sent before, with its rows as they are in this run
pub record IsNowSent (v : Run) (e : Envelope) : Type 0 where
  pub asking : Envelope
  pub among : Contains v.sent asking
  pub number : ℕ
  pub read : Read
  pub asked : asking.body ≡ ReadNow number read
  pub clock : ℕ
  pub answer : e ≡ envelope asking.to asking.from clock (PartNow number (map (row_now clock (v.shards asking.to) read) read.keys))

pub now_sent_at : (top : TopologyValue) (v : Run) (x : RunEvent) (k : ℕ) (e : Envelope) → length v.sent ≤ k → slice_get (step top v x).sent k ≡ Some e
    → is_now e.body ≡ true → IsNowSent v e
now_sent_at top v x k e le sent is =
    event_cases top v x (λ z. slice_get z.sent k ≡ Some e → IsNowSent v e)
    (record {
      nothing = λ g. let lt = slice_get_within v.sent k e g in absurd (omega arith);
      handled =
          λ j f n q there to g.
          let a = now_sent top f.to n (v.shards f.to) f.from f.body e (get_added v.sent _ k e le g) is in
          record {
            asking = f;
            among = contains_get v.sent j f there;
            number = a.number;
            read = a.read;
            asked = a.asked;
            clock = n;
            answer = a.answer;
          };
      heard =
          λ j f n q there other to g.
          absurd (not_now e.body (heard_sends top f.to n (v.sessions f.to) f.from f.body e (get_added v.sent _ k e le g)).1 is);
      begun =
          λ node o n q to g.
          absurd (not_now e.body (begun_sends top node n (v.sessions node) o e (get_added v.sent _ k e le g)).1 is);
      collected = λ node time n q g. absurd (none_in_empty e (get_added v.sent [] k e le g));
    })
    sent
