-- What envelopes say, shards, sessions and completed operations go on being sound.
use Rattle.std.proofs.Common.{ℕ, List, inl, inr, le_refl}
use Rattle.logical_time.specs.Stamps.{StampValue, TxnValue}
use Rattle.slice.specs.declared.read.Read.{Read}
use Rattle.messages.specs.declared.rows_at.RowAt.{RowAt}
use Rattle.messages.specs.declared.op.Op.{Op}
use Rattle.messages.specs.declared.outcome.Outcome.{Outcome}
use Rattle.messages.specs.declared.body.Body.{Body}
use Rattle.messages.specs.declared.body.Body.TheVariants.{Begin, Prepare, Yes, Commit, At, NotBy, Check, Read as ReadNow, ReadAt, ReplBegin, ReplPart, Notify, PrepareRemote, DepCheck, DepOk, Done, PartNow, PartAt}
use Rattle.messages.specs.Topology.{TopologyValue}
use Rattle.messages.specs.Session.{SessionState, Open, Idle, Writing, FirstRound, SecondRound, Moving, HeardNow, HeardAt}
use Rattle.world.specs.Run.{Run, Completed}
use Rattle.world.specs.Promises.{Fits}
use Rattle.world.proofs.steps.EndCases.{end_cases}
use Rattle.world.proofs.growing.Growth.{Grows}
use Rattle.world.proofs.safety.Invariant.{IsAtHome, IsLead, TellsDecision, MayWait, of_shard, of_move, Says, ShardSound, IsOpen, HeardNowSound, HeardAtSound, OpenSound, SessionSound, AnsweredFrom, DependsOnDone, EndSound, CompletedSound}
use Rattle.world.proofs.safety.Lasting.{written_grows, decided_grows, done_grows, before_grows, prepared_grows, ballot_grows, kept_ballot_grows, kept_part_grows, decision_grows, applied_grows, excluded_grows, row_at_grows, answers_now_grow, answers_at_grow}

pub lead_grows : {top : TopologyValue} {w x : Run} {dc node : ℕ} {t : TxnValue} → Grows top w x → IsLead top w dc node t → IsLead top x dc node t
lead_grows g k = record { submission = k.submission; batch = k.batch; written = written_grows g k.written; here = k.here }

at_home_grows : {top : TopologyValue} {w x : Run} {node : ℕ} {t : TxnValue} → Grows top w x → IsAtHome top w node t → IsAtHome top x node t
at_home_grows g k = record { submission = k.submission; batch = k.batch; written = written_grows g k.written; here = k.here }

pub tells_grows : {top : TopologyValue} {w x : Run} {from n commit : ℕ} {t : TxnValue} {s : StampValue} → Grows top w x → TellsDecision w from n t commit s → TellsDecision x from n t commit s
tells_grows g k = record { decided = decided_grows g k.decided; time = k.time }

pub may_wait_grows : {top : TopologyValue} {w x : Run} {node from : ℕ} {t : TxnValue} → Grows top w x → MayWait top w node t from → MayWait top x node t from
may_wait_grows g (of_shard b batch written e) = of_shard b batch (written_grows g written) e
may_wait_grows g (of_move b m is own to) = of_move b (g.submitted b m) is own to

pub says_grows : (top : TopologyValue) {w x : Run} (from to n : ℕ) → Grows top w x → (b : Body) → Says top w from to n b → Says top x from to n b
says_grows top from to n g (Begin t rows cohorts dependencies) k = ballot_grows g (le_refl _) k
says_grows top from to n g (Prepare t rows coordinator) k =
    record {
      submission = k.submission;
      batch = k.batch;
      written = written_grows g k.written;
      coordinator = k.coordinator;
      rows = k.rows;
      cohort = k.cohort;
      origin = k.origin;
    }
says_grows top from to n g (Yes t) k = before_grows g (le_refl _) k
says_grows top from to n g (Commit t commit stamp) k = (tells_grows g k.0, k.1)
says_grows top from to n g (At t commit stamp) k = (tells_grows g k.0, k.1)
says_grows top from to n g (NotBy t bound) k = (excluded_grows g k.0, lead_grows g k.1)
says_grows top from to n g (Check t bound) k = (k.0, k.1, lead_grows g k.2)
says_grows top from to n g (ReadNow number read) k = (g.sessions from).asked_now number to read k
says_grows top from to n g (ReadAt number bound read) k = (k.0, (g.sessions from).asked_at number bound to read k.1)
says_grows top from to n g (ReplBegin cohorts t rows stamp dependencies) k = kept_ballot_grows g (le_refl _) k
says_grows top from to n g (ReplPart t rows stamp coordinator) k = kept_part_grows g k
says_grows top from to n g (Notify t) k = k
says_grows top from to n g (PrepareRemote t) k = k
says_grows top from to n g (DepCheck dependency waiter) k = may_wait_grows g k
says_grows top from to n g (DepOk dependency waiter commit) k = ((k.0.0, tells_grows g k.0.1), may_wait_grows g k.1)
says_grows top from to n g (Done t commit stamp) k = (tells_grows g k.0, at_home_grows g k.1)
says_grows top from to n g (PartNow number rows) k = k
says_grows top from to n g (PartAt number bound answer) k = k

pub shard_grows : {top : TopologyValue} {w x : Run} {node : ℕ} → Grows top w x → ShardSound top w node (w.shards node) → ShardSound top x node (w.shards node)
shard_grows {node = node} g k =
    record {
      prepared = λ p m. prepared_grows g m (k.prepared p m);
      ballots = λ b m. ballot_grows g (g.shards node).clock (k.ballots b m);
      early = λ v m. before_grows g (g.shards node).clock (k.early v m);
      votes = λ v m. before_grows g (g.shards node).clock (k.votes v m);
      decided = λ d m. decision_grows g m (k.decided d m);
      once = k.once;
      applied = λ v m. applied_grows g (k.applied v m);
      kept_parts = λ p m. kept_part_grows g (k.kept_parts p m);
      kept_ballots = λ r m. kept_ballot_grows g (g.shards node).clock (k.kept_ballots r m);
      met = λ u m. done_grows g (g.shards node).clock (k.met u m);
      askers = λ u m. may_wait_grows g (k.askers u m);
    }

pub open_is_grows : {top : TopologyValue} {w x : Run} {node m dc : ℕ} {o : Op} → Grows top w x → IsOpen w node m dc o → IsOpen x node m dc o
open_is_grows g k =
    record {
      submission = k.submission;
      among = g.submitted k.submission k.among;
      session = k.session;
      number = k.number;
      home = k.home;
      op = k.op;
    }

heard_now_grows : {top : TopologyValue} {w x : Run} {a : SessionState} {read : Read} {h : HeardNow} → Grows top w x → HeardNowSound top w a read h → HeardNowSound top x a read h
heard_now_grows g k = record { asked = k.asked; answers = answers_now_grow g (le_refl _) k.answers }

heard_at_grows : {top : TopologyValue} {w x : Run} {a : SessionState} {read : Read} {time : ℕ} {first : List HeardNow} {h : HeardAt} → Grows top w x → HeardAtSound top w a read time first h → HeardAtSound top x a read time first h
heard_at_grows g k = record { asked = k.asked; answers = answers_at_grow g k.answers }

pub open_grows : (top : TopologyValue) {w x : Run} (node : ℕ) (a : SessionState) → Grows top w x → (o : Open) → OpenSound top w node a o → OpenSound top x node a o
unfolding open_is_grows
open_grows top node a g Idle k = tt
open_grows top node a g (Writing coordinator) k = record { batch = k.batch; opened = open_is_grows g k.opened; coordinator = k.coordinator }
open_grows top node a g (FirstRound read heard) k = record { opened = open_is_grows g k.opened; depends = k.depends; heard = λ h m. heard_now_grows g (k.heard h m) }
open_grows top node a g (SecondRound read time first heard) k =
    record {
      opened = open_is_grows g k.opened;
      depends = k.depends;
      first = λ h m. heard_now_grows g (k.first h m);
      all = k.all;
      time = k.time;
      clock = k.clock;
      heard = λ h m. heard_at_grows g (k.heard h m);
    }
open_grows top node a g (Moving dc left floor) k =
    record {
      opened = open_is_grows g k.opened;
      depends = k.depends;
      below = k.below;
      away = k.away;
      clock = k.clock;
      answered = λ u m. elim (k.answered u m) [ inl i ↦ inl i | inr d ↦ inr (done_grows g (le_refl _) d) ];
    }

pub session_grows : {top : TopologyValue} {w x : Run} {node : ℕ} {a : SessionState} → Grows top w x → SessionSound top w node a → SessionSound top x node a
session_grows {top = top} {node = node} {a = a} g k =
    record {
      floor = k.floor;
      current = open_grows top node a g a.current k.current;
      dependencies = λ u m. done_grows g (le_refl _) (k.dependencies u m);
      placed = k.placed;
      taken = k.taken;
    }

pub from_grows : {top : TopologyValue} {w x : Run} {dc time : ℕ} {read : Read} {rows : List RowAt} → Grows top w x → AnsweredFrom top w dc read time rows → AnsweredFrom top x dc read time rows
from_grows g k = record { given = k.given; right = λ r m. row_at_grows g (k.right r m) }

depends_grow : {top : TopologyValue} {w x : Run} {dc n : ℕ} {t : TxnValue} → Grows top w x → DependsOnDone top w dc t n → DependsOnDone top x dc t n
depends_grow g k =
    record { submission = k.submission; among = g.submitted k.submission k.among; txn = k.txn; done = λ u m. done_grows g (le_refl _) (k.done u m) }

end_grows : {top : TopologyValue} {w x : Run} (o : Op) (e : Outcome) (dc : ℕ) (t : TxnValue) → Grows top w x → Fits o e → EndSound o e top w dc t → EndSound o e top x dc t
end_grows {top} {w} {x} o e dc t g =
    end_cases (λ o e. EndSound o e top w dc t → EndSound o e top x dc t)
    (record {
      wrote = λ batch commit stamp k. decided_grows g k;
      answered = λ read time answer k. record { rows = k.rows; answer = k.answer; from = from_grows g k.from; depends = depends_grow g k.depends };
      given_up = λ read k. k;
      moved = λ dc floor k. depends_grow g k;
    }) o e

pub completed_grows : {top : TopologyValue} {w x : Run} {c : Completed} → Grows top w x → CompletedSound top w c → CompletedSound top x c
completed_grows {top = top} {c = c} g k =
    record {
      opened = open_is_grows g k.opened;
      fits = k.fits;
      came = end_grows c.op c.outcome c.home (record { session = c.node; number = c.number }) g k.fits k.came;
    }
