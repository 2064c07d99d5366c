-- What an open read has heard in its first round, its session kept at the delivery of that answer.
use Rattle.std.proofs.Common.{◌≡◌, ◌∙◌, ℕ, ap, sym, refl, subst, inl, inr, List, [], ◌∷◌, ◌++◌, Some, Ok, slice_get}
use Rattle.std.specs.Prelude.{Contains}
use Rattle.std.proofs.lemmas.List.{append_assoc}
use Rattle.slice.specs.declared.read.Read.{Read}
use Rattle.messages.specs.declared.rows_now.RowNow.{RowNow}
use Rattle.messages.specs.declared.op.Op.{Op}
use Rattle.messages.specs.declared.envelope.Envelope.{Envelope}
use Rattle.messages.specs.Topology.{TopologyValue}
use Rattle.messages.specs.Session.{SessionState, SessionStep, Open, Idle, Writing, FirstRound, SecondRound, Moving, HeardNow}
use Rattle.messages.specs.Submitting.{begun}
use Rattle.messages.specs.Rounds.{asked_nodes, is_missing}
use Rattle.messages.specs.SessionEvents.{heard}
use Rattle.world.specs.Run.{Run, RunEvent, Submit, Deliver, opening, after_session, after_submission, step, continued, run}
use Rattle.world.specs.Fresh.{IsKept}
use Rattle.world.proofs.lists.Members.{none_in_empty, last_or_old}
use Rattle.world.proofs.steps.EventCases.{event_cases}
use Rattle.world.proofs.growing.Prefixes.{get_first}
use Rattle.world.proofs.worked.Replayed.{step_replayed}
use Rattle.world.proofs.fresh.HeardRuns.{changed_actor}
use Rattle.world.proofs.steps.HeardCases.{FirstAnswer, heard_cases}
use Rattle.world.proofs.steps.BegunCases.{begun_cases}

-- ## What is kept stays

kept_more : (top : TopologyValue) (w v : Run) (x : RunEvent) (more : List Envelope) → v.events ≡ w.events ++ x ∷ [] → v.sent ≡ w.sent ++ more
    → (session number k : ℕ) (e : Envelope) → IsKept top w session number k e → IsKept top v session number k e
kept_more top w v x more events sent session number k e kept =
    record {
      before = kept.before;
      after = kept.after ++ x ∷ [];
      delivery = events ∙ ap (λ l. l ++ x ∷ []) kept.delivery ∙ append_assoc kept.before (Deliver k ∷ kept.after) (x ∷ []);
      message = ap (λ l. slice_get l k) sent ∙ get_first w.sent more k e kept.message;
      address = kept.address;
      rows = kept.rows;
      body = kept.body;
      count = kept.count;
      read = kept.read;
      heard = kept.heard;
      first_round = kept.first_round;
      missing = kept.missing;
    }

kept_step : (top : TopologyValue) (w : Run) (x : RunEvent) (session number k : ℕ) (e : Envelope) → IsKept top w session number k e
    → IsKept top (step top w x) session number k e
kept_step top w x session number k e kept =
    event_cases top w x (λ v. IsKept top v session number k e)
    (record {
      nothing = kept;
      handled = λ j f n is sent to. kept_more top w _ x _ refl refl session number k e kept;
      heard = λ j f n is sent other to. kept_more top w _ x _ refl refl session number k e kept;
      begun = λ node o n is to. kept_more top w _ (Submit node o) _ refl refl session number k e kept;
      collected = λ node time n is. kept_more top w _ x [] refl refl session number k e kept;
    })

pub kept_later : (top : TopologyValue) (w : Run) (xs : List RunEvent) (session number k : ℕ) (e : Envelope) → IsKept top w session number k e
    → IsKept top (continued top w xs) session number k e
kept_later top w [] session number k e kept = kept
kept_later top w (x ∷ xs) session number k e kept = kept_later top (step top w x) xs session number k e (kept_step top w x session number k e kept)

-- ## What an open read has heard was kept

-- an answer of this shard was kept
pub record HasKept (top : TopologyValue) (w : Run) (session number shard : ℕ) : Type 0 where
  pub k : ℕ
  pub e : Envelope
  pub kept : IsKept top w session number k e
  pub from : e.from ≡ shard

abbrev pub first_heard : Open → List HeardNow
first_heard Idle = []
first_heard (Writing coordinator) = []
first_heard (FirstRound read hs) = hs
first_heard (SecondRound read time first hs) = first
first_heard (Moving dc left floor) = []

-- whatever the session's open read has heard in its first round was kept
abbrev pub HeardIsKept : TopologyValue → Run → ℕ → SessionState → Type 0
HeardIsKept top w node a = (h : HeardNow) → Contains (first_heard a.current) h → HasKept top w node a.count h.from

abbrev pub AllKept : TopologyValue → Run → Type 0
AllKept top w = (node : ℕ) → HeardIsKept top w node (w.sessions node)

module _ (top : TopologyValue) (w : Run) (replayed : run top w.events ≡ w) (x : RunEvent) (all : AllKept top w) where
  later : (v : Run) (more : List Envelope) (y : RunEvent) → v.events ≡ w.events ++ y ∷ [] → v.sent ≡ w.sent ++ more → (session number shard : ℕ)
      → HasKept top w session number shard → HasKept top v session number shard
  later v more y events sent session number shard h =
      record { k = h.k; e = h.e; kept = kept_more top w v y more events sent session number h.k h.e h.kept; from = h.from }

  module _ (j : ℕ) (e : Envelope) (n : ℕ) (is : x ≡ Deliver j) (sent : slice_get w.sent j ≡ Some e) where
    abbrev a : SessionState
    a = w.sessions e.to

    abbrev v : Run
    v = after_session (Ok (heard top e.to n (w.sessions e.to) e.from e.body)) w x e.to

    stays : (o : Open) → a.current ≡ o → (h : HeardNow) → Contains (first_heard o) h → HasKept top v e.to a.count h.from
    stays o q h m = later v _ x refl refl e.to a.count h.from (all e.to h (subst (λ z. Contains (first_heard z) h) (sym q) m))

    -- this message is kept now
    now : (read : Read) (hs : List HeardNow) (rows : List RowNow) → FirstAnswer top a e.from e.body read hs rows → HasKept top v e.to a.count e.from
    now read hs rows k =
        record {
          k = j;
          e = e;
          kept =
              record {
                before = w.events;
                after = [];
                delivery = ap (λ y. w.events ++ y ∷ []) is;
                message = get_first w.sent _ j e sent;
                address = refl;
                rows = rows;
                body = k.body;
                count = ap (λ (z : Run). (z.sessions e.to).count) replayed;
                read = read;
                heard = hs;
                first_round = ap (λ (z : Run). (z.sessions e.to).current) replayed ∙ k.current;
                missing = ap (λ (z : Run). is_missing (asked_nodes top (z.sessions e.to) read) hs e.from) replayed ∙ k.missing;
              };
          from = refl;
        }

    with_now : (read : Read) (hs : List HeardNow) (rows : List RowNow) → FirstAnswer top a e.from e.body read hs rows
        → (h : HeardNow) → Contains (hs ++ record { from = e.from; rows = rows } ∷ []) h → HasKept top v e.to a.count h.from
    with_now read hs rows k h m = elim (last_or_old h (record { from = e.from; rows = rows }) hs m) [
      | inl old ↦ stays (FirstRound read hs) k.current h old
      | inr q ↦ subst (λ (z : HeardNow). HasKept top v e.to a.count z.from) (sym q) (now read hs rows k)
    ]

    hears : HeardIsKept top v e.to (heard top e.to n a e.from e.body).state
    hears =
        heard_cases top e.to n a e.from e.body (λ (st : SessionStep). HeardIsKept top v e.to st.state)
        (record {
          still = λ ignored h m. stays a.current refl h m;
          wrote = λ coordinator t commit stamp k h m. absurd (none_in_empty h m);
          kept = λ read hs rows k some h m. with_now read hs rows k h m;
          second = λ read hs rows k whole s ss q h m. with_now read hs rows k h m;
          ends = λ read hs rows k whole q h m. absurd (none_in_empty h m);
          kept_at = λ read time first hs rows k some h m. stays (SecondRound read time first hs) k.current h m;
          ends_at = λ read time first hs rows k whole h m. absurd (none_in_empty h m);
          gives_up = λ read time first hs k h m. absurd (none_in_empty h m);
          counted = λ dc left floor dependency commit k u us e h m. absurd (none_in_empty h m);
          arrives = λ dc left floor dependency commit k e h m. absurd (none_in_empty h m);
        })

  begins : (node n : ℕ) (o : Op) (z : Run) → HeardIsKept top z node (begun top node n (w.sessions node) o).state
  begins node n o z =
      begun_cases top node n (w.sessions node) (λ o (st : SessionStep). HeardIsKept top z node st.state)
      (record { writes = λ batch h m. absurd (none_in_empty h m); reads = λ read h m. absurd (none_in_empty h m); moves = λ dc k ks e h m. absurd (none_in_empty h m); at_once = λ dc e h m. absurd (none_in_empty h m) }) o

  step_keeps : AllKept top (step top w x)
  step_keeps =
      event_cases top w x (AllKept top)
      (record {
        nothing = all;
        handled = λ j e n is sent to node h m. later _ _ x refl refl node _ h.from (all node h m);
        heard =
            λ j e n is sent other to node.
            changed_actor (HeardIsKept top (v j e n is sent) node) w.sessions e.to _ node
            (λ same. subst (λ z. HeardIsKept top (v j e n is sent) z (heard top e.to n (w.sessions e.to) e.from e.body).state) (sym same) (hears j e n is sent))
            (λ apart h m. later (v j e n is sent) _ x refl refl node _ h.from (all node h m));
        begun =
            λ m o n is to node.
            changed_actor (HeardIsKept top (after_submission (Ok (begun top m n (w.sessions m) o)) w m o) node) w.sessions m _ node
            (λ same. subst (λ z. HeardIsKept top (after_submission (Ok (begun top m n (w.sessions m) o)) w m o) z (begun top m n (w.sessions m) o).state)
            (sym same) (begins m n o _))
            (λ apart h i. later _ _ (Submit m o) refl refl node _ h.from (all node h i));
        collected = λ m time n is node h i. later _ [] x refl refl node _ h.from (all node h i);
      })

kept_on : (top : TopologyValue) (w : Run) (xs : List RunEvent) → run top w.events ≡ w → AllKept top w → AllKept top (continued top w xs)
kept_on top w [] replayed all = all
kept_on top w (x ∷ xs) replayed all =
    kept_on top (step top w x) xs (step_replayed top w x replayed) (step_keeps top w replayed x all)

pub all_kept : (top : TopologyValue) (events : List RunEvent) → AllKept top (run top events)
all_kept top events = kept_on top (opening top) events refl (λ node h m. absurd (none_in_empty h m))
