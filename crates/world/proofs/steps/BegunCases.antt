-- What a submission makes of a session, case by case: a write, a read or a move is opened, or a move without
-- dependencies ends at once. Such a move is one that is opened with nothing left, and then ends at the same clock.
use Rattle.std.proofs.Common.{◌≡◌, append-nil, ap, refl, subst, ◌∙◌, ℕ, ◌+◌, Bool, true, false, cond, List, [], ◌∷◌, ◌++◌, map, None, Ok}
use Rattle.std.specs.Prelude.{◌==◌}
use Rattle.logical_time.specs.Stamps.{WriterValue}
use Rattle.column_family.specs.declared.batch.Change.{Change}
use Rattle.slice.specs.declared.read.Read.{Read}
use Rattle.messages.specs.declared.op.Op.{Op}
use Rattle.messages.specs.declared.op.Op.TheVariants as op
use Rattle.messages.specs.declared.envelope.Envelope.{Envelope}
use Rattle.messages.specs.Topology.{TopologyValue}
use Rattle.messages.specs.Session.{SessionState, SessionStep, Open, Moving, moved}
use Rattle.messages.specs.Submitting.{write_begun, read_begun, check_of, move_if, begun}
use Rattle.messages.specs.SessionEvents.{session_taken}
use Rattle.world.specs.Run.{Run, RunEvent, Submit, Submission, with_actor, after_session, after_submission}
use Rattle.world.proofs.keeping.ShardSteps.{actor_same}

-- a move is opened: each dependency is asked for in the new data centre
abbrev pub move_opened : TopologyValue → ℕ → ℕ → SessionState → ℕ → SessionStep
move_opened top me n a dc =
    record {
      state = record a { clock = n; count = a.count + 1; current = Moving dc a.dependencies 0; untaken = None };
      sends = map (check_of top me n a dc) a.dependencies;
    }

-- a move without dependencies ends where it is submitted
abbrev pub moved_at_once : ℕ → SessionState → ℕ → SessionStep
moved_at_once n a dc = moved n (record a { count = a.count + 1 }) dc 0

-- What holds of each thing that a submission may make of a session holds of what it makes.
pub record BegunCases (top : TopologyValue) (me n : ℕ) (a : SessionState) (P : Op → SessionStep → Type 0) : Type 0 where
  pub writes : (batch : List Change) → P (op.Batch batch) (write_begun top me n a batch)
  pub reads : (read : Read) → P (op.Read read) (read_begun top me n a read)
  pub moves : (dc : ℕ) (k : WriterValue) (ks : List WriterValue) → a.dependencies ≡ k ∷ ks → P (op.Move dc) (move_opened top me n a dc)
  pub at_once : (dc : ℕ) → a.dependencies ≡ [] → P (op.Move dc) (moved_at_once n a dc)

pub begun_cases : (top : TopologyValue) (me n : ℕ) (a : SessionState) (P : Op → SessionStep → Type 0) → BegunCases top me n a P → (o : Op)
    → P o (begun top me n a o)
begun_cases top me n a P c (op.Batch batch) = c.writes batch
begun_cases top me n a P c (op.Read read) = c.reads read
begun_cases top me n a P c (op.Move dc) = go a.dependencies refl
  where
    asks : List WriterValue → SessionStep
    asks l =
        record {
          state = record a { clock = n; count = a.count + 1; current = Moving dc l 0; untaken = None };
          sends = map (check_of top me n a dc) l;
        }

    go : (l : List WriterValue) → a.dependencies ≡ l → P (op.Move dc) (move_if l top me n a dc)
    go [] e = c.at_once dc e
    go (k ∷ ks) e = subst (λ l. P (op.Move dc) (asks l)) e (c.moves dc k ks e)

-- ## In a run

-- the submission of an operation of a session
abbrev pub its_submission : Run → ℕ → ℕ → Op → Submission
its_submission w node n o =
    record {
      session = node;
      number = (w.sessions node).count + 1;
      home = (w.sessions node).home;
      time = n;
      op = o;
      dependencies = (w.sessions node).dependencies;
    }

-- the session with its next operation open
abbrev pub opened_state : Run → ℕ → ℕ → Open → SessionState
opened_state w node n current = record (w.sessions node) { clock = n; count = (w.sessions node).count + 1; current = current; untaken = None }

-- the run where an operation is open in this way, with these events: a submission's, or none of it yet
abbrev pub opened_run : List RunEvent → Run → ℕ → ℕ → Op → Open → List Envelope → Run
opened_run events w node n o current sends =
    record {
      events = events;
      shards = w.shards;
      sessions = with_actor w.sessions node (opened_state w node n current);
      sent = w.sent ++ sends;
      submitted = w.submitted ++ its_submission w node n o ∷ [];
      transcript = w.transcript;
    }

-- the run where a move without dependencies is open
abbrev pub move_open : Run → ℕ → ℕ → ℕ → Run
move_open w node n dc = opened_run w.events w node n (op.Move dc) (Moving dc [] 0) []

-- of two changes of an actor the later one counts
twice : {X : Type 0} (f : ℕ → X) (node : ℕ) (a b : X) → with_actor (with_actor f node a) node b ≡ with_actor f node b
twice f node a b j i = go (i == node) j
  where
    go : (t : Bool) → cond t b (cond t a (f i)) ≡ cond t b (f i)
    go true = refl
    go false = refl

-- from there the ordinary end of a move, at the same clock, makes the run that the submission makes
pub ends_at_once : (w : Run) (node n dc : ℕ)
    → after_session (Ok (moved n ((move_open w node n dc).sessions node) dc 0)) (move_open w node n dc) (Submit node (op.Move dc)) node
    ≡ after_submission (Ok (moved_at_once n (w.sessions node) dc)) w node (op.Move dc)
ends_at_once w node n dc = ap to at ∙ same
  where
    x : Run
    x = move_open w node n dc

    to : SessionState → Run
    to a = after_session (Ok (moved n a dc 0)) x (Submit node (op.Move dc)) node

    at : x.sessions node ≡ opened_state w node n (Moving dc [] 0)
    at = actor_same w.sessions node (opened_state w node n (Moving dc [] 0))

    last : Run
    last = after_submission (Ok (moved_at_once n (w.sessions node) dc)) w node (op.Move dc)

    same : to (opened_state w node n (Moving dc [] 0)) ≡ last
    same j =
        record {
          events = last.events;
          shards = last.shards;
          sessions = twice w.sessions node (opened_state w node n (Moving dc [] 0)) (session_taken (moved_at_once n (w.sessions node) dc).state) j;
          sent = append-nil (w.sent ++ []) j;
          submitted = last.submitted;
          transcript = last.transcript;
        }
