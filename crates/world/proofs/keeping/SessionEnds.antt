-- A session's step that ends its operation, and one that leaves it open.
use Rattle.std.proofs.Common.{◌≡◌, ℕ, ◌+◌, ◌<◌, ◌≤◌, false, List, [], Option, Some, None, inl, inr, refl, sym, ap, ap₂, ◌∙◌, subst, le_refl, le_trans}
use Rattle.std.specs.Prelude.{option_map, Contains}
use Rattle.logical_time.specs.Stamps.{TxnValue, WriterValue}
use Rattle.slice.specs.declared.read.Read.{Read}
use Rattle.messages.specs.declared.op.Op.{Op}
use Rattle.messages.specs.declared.op.Op.TheVariants as op
use Rattle.messages.specs.declared.outcome.Outcome.{Outcome}
use Rattle.messages.specs.declared.outcome.Outcome.TheVariants as outcome
use Rattle.messages.specs.declared.envelope.Envelope.{Envelope}
use Rattle.messages.specs.Topology.{TopologyValue}
use Rattle.messages.specs.Words.{is_same_txn}
use Rattle.messages.specs.Session.{SessionState, Open, Idle, Writing, FirstRound, SecondRound, Moving, HeardNow, HeardAt, calm, ended, moved, is_idle}
use Rattle.messages.specs.Actors.{home_after}
use Rattle.world.specs.Run.{Run, Submission, Completed, submission_of, completed_of}
use Rattle.world.specs.Promises.{Fits}
use Rattle.world.proofs.lists.Members.{none_in_empty, found, same_txn}
use Rattle.world.proofs.growing.Growth.{FirstAsked, SecondAsked, Grows}
use Rattle.world.proofs.safety.Facts.{txn_of, IsDone}
use Rattle.world.proofs.safety.Invariant.{EnvelopeSound, IsOpen, HeardNowSound, HeardAtSound, MovingSound, OpenSound, SubmittedSound, EndSound, CompletedSound, Inv}
use Rattle.world.proofs.safety.Lasting.{answers_now_grow}
use Rattle.world.proofs.safety.Ables.{same_run}
use Rattle.world.proofs.keeping.SessionSteps.{EndLeaves, SessionAble}
use Rattle.world.proofs.steps.Transcripts.{nothing_ended}

-- ## What ended

pub open_txn : {w : Run} {node m dc : ℕ} {o : Op} (k : IsOpen w node m dc o) → txn_of k.submission ≡ record { session = node; number = m }
open_txn k = ap₂ (λ s n. record { session = s; number = n }) k.session k.number

-- what ended is the operation that was open
open_completed : (top : TopologyValue) (w : Run) (node m dc : ℕ) (o : Op) (out : Outcome) → SubmittedSound top w → IsOpen w node m dc o
    → Fits o out → EndSound o out top w dc (record { session = node; number = m })
    → (s : Submission) → Contains w.submitted s → txn_of s ≡ record { session = node; number = m } → CompletedSound top w (record { node = node; number = m; home = s.home; op = s.op; outcome = out })
open_completed top w node m dc o out k b fits came s i e =
    let same : s ≡ b.submission = k.one s b.submission i b.among (e ∙ sym (open_txn b)) in
    record {
      opened = record { submission = s; among = i; session = ap (λ t. t.session) e; number = ap (λ t. t.number) e; home = refl; op = refl };
      fits = subst (λ z. Fits z out) (sym (ap (λ z. z.op) same ∙ b.op)) fits;
      came =
          subst (λ z. EndSound z out top w s.home (record { session = node; number = m })) (sym (ap (λ z. z.op) same ∙ b.op))
          (subst (λ z. EndSound o out top w z (record { session = node; number = m })) (sym (ap (λ z. z.home) same ∙ b.home)) came);
    }

found_completed : (top : TopologyValue) (w : Run) (node m dc : ℕ) (o : Op) (out : Outcome) → SubmittedSound top w → IsOpen w node m dc o
    → Fits o out → EndSound o out top w dc (record { session = node; number = m })
    → (c : Completed) → completed_of w.submitted node (record { number = m; outcome = out }) ≡ Some c → CompletedSound top w c
found_completed top w node m dc o out k b fits came c e = go (submission_of w.submitted t) refl e
  where
    t : TxnValue
    t = record { session = node; number = m }

    ended_as : Submission → Completed
    ended_as s = record { node = node; number = m; home = s.home; op = s.op; outcome = out }

    go : (f : Option Submission) → submission_of w.submitted t ≡ f → option_map ended_as f ≡ Some c → CompletedSound top w c
    go None q r = absurd (cc)
    go (Some s) q r =
        let same : ended_as s ≡ c = cc in
        let i = found (λ s. is_same_txn (record { session = s.session; number = s.number }) t) w.submitted s q in
        subst (λ z. CompletedSound top w z) same (open_completed top w node m dc o out k b fits came s i.0 (same_txn (txn_of s) t i.1))

module _ (top : TopologyValue) (w : Run) (node n : ℕ) (inv : Inv top w) (le : (w.sessions node).clock ≤ n) where
  -- the session before the message
  abbrev a : SessionState
  a = w.sessions node

  -- after it and its outcome taken, where its operation is open or another
  abbrev later : Open → SessionState
  later o = record (w.sessions node) { clock = n; current = o; untaken = None }

  -- the operation ends, and leaves the session in this home
  pub ended_able : (home floor : ℕ) (dependencies : List WriterValue) (out : Outcome) (o : Op) → (home ≡ a.home → a.floor ≤ floor) → floor ≤ n
      → IsOpen w node a.count a.home o → Fits o out → EndSound o out top w a.home (record { session = node; number = a.count })
      → ((k : WriterValue) → Contains dependencies k → IsDone top w home k.txn (floor + 1))
      → ((k : WriterValue) → Contains dependencies k → k.shard < top.shards) → is_idle a.current ≡ false → home ≡ home_after a.home out
      → EndLeaves o out top w node floor dependencies → SessionAble top w node (ended n (record a { home = home }) floor dependencies out)
  ended_able home floor dependencies out o above below b fits came done placed busy there leaves =
      record {
        grows =
            record {
              clock = le;
              count = le_refl a.count;
              asked_now = λ number m asked k. record { number = k.number; round = λ q. tt };
              asked_at = λ number time m asked k. record { number = k.number; round = λ q. tt };
            };
        session = record { floor = below; current = tt; dependencies = done; placed = placed; taken = refl };
        completed = found_completed top w node a.count a.home o out inv.submitted b fits came;
        sends = λ x g at e m. absurd (none_in_empty e m);
        turn =
            inr
            (record {
              what = o;
              came = out;
              fits = fits;
              opened = b;
              busy = busy;
              idle = refl;
              count = refl;
              home = there;
              floor = above;
              untaken = refl;
              leaves = leaves;
            });
      }

  -- the open move ends: what the session depends on is decided at the new home
  pub moved_able : (dc floor : ℕ) → floor ≤ n → (b : IsOpen w node a.count a.home (op.Move dc)) → b.submission.dependencies ≡ a.dependencies
      → (dc ≡ a.home → ⊥)
      → ((k : WriterValue) → Contains a.dependencies k → IsDone top w dc k.txn (floor + 1)) → is_idle a.current ≡ false
      → SessionAble top w node (moved n a dc floor)
  moved_able dc floor below opened depends away done busy =
      ended_able dc floor a.dependencies (outcome.Moved dc floor) (op.Move dc) (λ same. absurd (away same)) below opened refl
      (record {
        submission = opened.submission;
        among = opened.among;
        txn = open_txn opened;
        done = λ k m. done k (subst (λ ds. Contains ds k) depends m);
      }) done
      (inv.sessions node).placed busy refl (away, refl)

  -- with nothing left it may end
  pub nothing_left_able : (dc floor : ℕ) → a.current ≡ Moving dc [] floor → SessionAble top w node (moved n a dc floor)
  nothing_left_able dc floor is =
      let k : MovingSound top w node a dc [] floor = subst (λ o. OpenSound top w node a o) is (inv.sessions node).current in
      moved_able dc floor (le_trans k.clock le) k.opened k.depends k.away (λ u m. elim (k.answered u m) [ inl i ↦ absurd (none_in_empty u i) | inr d ↦ d ]) (ap is_idle is)

  -- the operation is left open
  pub waits_able : (o : Open) (sends : List Envelope) → ((m : ℕ) (asked : Read) → FirstAsked top a.current m asked → FirstAsked top o m asked)
      → ((time m : ℕ) (asked : Read) → SecondAsked a.current time m asked → SecondAsked o time m asked) → OpenSound top w node (later o) o
      → ((x : Run) → Grows top w x → x.sessions node ≡ later o → (e : Envelope) → Contains sends e → EnvelopeSound top x e)
      → is_idle o ≡ is_idle a.current → SessionAble top w node (record { state = record a { clock = n; current = o }; sends = sends })
  waits_able o sends asked_first asked_second sound send idle =
      record {
        grows =
            record {
              clock = le;
              count = le_refl a.count;
              asked_now = λ number m asked k. record { number = k.number; round = λ q. asked_first m asked (k.round q) };
              asked_at = λ number time m asked k. record { number = k.number; round = λ q. asked_second time m asked (k.round q) };
            };
        session = record {
          floor = le_trans (inv.sessions node).floor le;
          current = sound;
          dependencies = (inv.sessions node).dependencies;
          placed = (inv.sessions node).placed;
          taken = refl;
        };
        completed = λ c e. absurd (nothing_ended w.submitted node (record { state = record a { clock = n; current = o }; sends = sends }) c (inv.sessions node).taken e);
        sends = send;
        turn = inl (record { count = refl; home = refl; floor = refl; dependencies = refl; untaken = (inv.sessions node).taken; idle = idle });
      }

  -- ## What was heard stays so as the clock moves

  pub heard_now_later : (o : Open) (read : Read) (h : HeardNow) → HeardNowSound top w a read h → HeardNowSound top w (later o) read h
  heard_now_later o read h k = record { asked = k.asked; answers = answers_now_grow (same_run top w) le k.answers }

  pub heard_at_later : (o : Open) (read : Read) (time : ℕ) (first : List HeardNow) (h : HeardAt) → HeardAtSound top w a read time first h
      → HeardAtSound top w (later o) read time first h
  heard_at_later o read time first h k = record { asked = k.asked; answers = k.answers }

  open_later : (now o : Open) → OpenSound top w node a o → OpenSound top w node (later now) o
  open_later now Idle k = tt
  open_later now (Writing coordinator) k = record { batch = k.batch; opened = k.opened; coordinator = k.coordinator }
  open_later now (FirstRound read heard) k = record { opened = k.opened; depends = k.depends; heard = λ h m. heard_now_later now read h (k.heard h m) }
  open_later now (SecondRound read time first heard) k =
      record {
        opened = k.opened;
        depends = k.depends;
        first = λ h m. heard_now_later now read h (k.first h m);
        all = k.all;
        time = k.time;
        clock = le_trans k.clock le;
        heard = λ h m. heard_at_later now read time first h (k.heard h m);
      }
  open_later now (Moving dc left floor) k =
      record { opened = k.opened; depends = k.depends; below = k.below; away = k.away; clock = le_trans k.clock le; answered = k.answered }

  -- only the clock moves
  pub calm_able : SessionAble top w node (calm n a)
  calm_able =
      let now = a.current in
      waits_able now [] (λ m asked k. k) (λ time m asked k. k) (open_later now now (inv.sessions node).current) (λ x g at e m. absurd (none_in_empty e m)) refl
