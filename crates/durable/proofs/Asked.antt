-- What a request that is kept leaves of a world and its log.
use Rattle.std.proofs.Common.{ℕ, List, [], ◌∷◌, ◌++◌, Option, Ok, Err, ◌⊎◌, inl, inr}
use Rattle.logical_time.specs.declared.fault.Fault.{Fault}
use Rattle.messages.specs.declared.op.Op.{Op}
use Rattle.messages.specs.declared.outcome.Outcome.{Outcome}
use Rattle.messages.specs.Topology.{TopologyValue, session_node}
use Rattle.world.specs.declared.run_event.RunEvent.{RunEvent}
use Rattle.world.specs.World.{IsRefusedAs}
use Rattle.drains.specs.Drain.{IsDrainedUntil}
use Rattle.service.specs.Port.{refused_at, IsReady, IsFull, IsTurnedAway, IsUntold, IsAnswered, Asks}
use Rattle.service.proofs.Requests.{unready_now, not_busy_then}
use Rattle.keeper.specs.declared.log.Log.{Log}
use Rattle.ledger.specs.declared.entry.Entry.{Entry}
use Rattle.ledger.specs.declared.entry.Entry.TheVariants.{Request}
use Rattle.durable.specs.Logged.{Notes, NotesLast, IsLogged}
use Rattle.durable.proofs.Logs.{notes_too}
use Rattle.durable.proofs.Requests.{stopped_led, drained_led, ready_led, answered_led, untold_led, turned_away_led, turned_away_from, untold_from, answered_from}

-- ## What is answered

pub unready_asks : (top : TopologyValue) (session : ℕ) (o : Op) (before after : List RunEvent) (f : Fault) → IsDrainedUntil top before after f ⊎ IsFull top before f after → Asks top session before o (Err f) after
unready_asks top session o before after f why = inl (unready_now top session o before after f why)

-- where it isn't submitted, for want of memory or as the world refuses it
pub unkept_asks : (top : TopologyValue) (session : ℕ) (o : Op) (before mid : List RunEvent) (f : Fault) → IsReady top before mid → IsRefusedAs (refused_at top session o mid) f → Asks top session before o (Err f) mid
unkept_asks top session o before mid f ready refused = inl (inr (inr (record { is_ready = ready; refused = refused; other = not_busy_then top session o before mid f ready refused })))

pub answered_asks : (top : TopologyValue) (session : ℕ) (o : Op) (before mid after : List RunEvent) (x : Outcome) → IsReady top before mid → IsAnswered top session o mid x after → Asks top session before o (Ok x) after
answered_asks top session o before mid after x ready a = answered_from top before mid ready session o x after a

pub untold_asks : (top : TopologyValue) (session : ℕ) (o : Op) (before mid after : List RunEvent) (f : Fault) → IsReady top before mid → IsUntold top session o mid f after → Asks top session before o (Err f) after
untold_asks top session o before mid after f ready u = inr (untold_from top before mid ready session o f after u)

pub turned_away_asks : (top : TopologyValue) (session : ℕ) (o : Op) (before mid after : List RunEvent) (f : Fault) → IsReady top before mid → IsTurnedAway top session o mid f after → Asks top session before o (Err f) after
turned_away_asks top session o before mid after f ready t = inl (turned_away_from top before mid ready session o f after t)

-- ## What is logged

module _ {D : Type 0} (seen : D → Option (List ℕ)) (may_leave : D → List ℕ → Type 0) (top : TopologyValue) where
  pub unready_logged : (log : Log D) (before after : List RunEvent) (f : Fault) → IsDrainedUntil top before after f ⊎ IsFull top before f after → IsLogged seen may_leave top log before → IsLogged seen may_leave top log after
  unready_logged log before after f (inl d) l = record { entries = l.entries; notes = l.notes; led = stopped_led top before after f l.entries d l.led }
  unready_logged log before after f (inr d) l = record { entries = l.entries; notes = l.notes; led = drained_led top before after d.count l.entries d.drained l.led }

  -- nothing was noted
  pub unkept_logged : (old new : Log D) (before mid : List RunEvent) → IsReady top before mid → ((es : List Entry) → Notes seen may_leave old es → Notes seen may_leave new es) → IsLogged seen may_leave top old before
      → IsLogged seen may_leave top new mid
  unkept_logged old new before mid ready still l = record { entries = l.entries; notes = still l.entries l.notes; led = ready_led top before mid l.entries ready l.led }

  module _ (old log : Log D) (mark index : ℕ) (o : Op) (before mid : List RunEvent) (ready : IsReady top before mid)
      (noted : (es : List Entry) → Notes seen may_leave old es → NotesLast seen may_leave log mark es (Request index o)) where
    pub answered_logged : (after : List RunEvent) (x : Outcome) → IsAnswered top (session_node top index) o mid x after → IsLogged seen may_leave top old before → IsLogged seen may_leave top log after
    answered_logged after x a l =
        record {
          entries = l.entries ++ Request index o ∷ [];
          notes = notes_too seen may_leave log mark l.entries (Request index o) (noted l.entries l.notes);
          led = answered_led top index o mid l.entries (ready_led top before mid l.entries ready l.led) x after a;
        }

    pub untold_logged : (after : List RunEvent) (f : Fault) → IsUntold top (session_node top index) o mid f after → IsLogged seen may_leave top old before → IsLogged seen may_leave top log after
    untold_logged after f u l =
        record {
          entries = l.entries ++ Request index o ∷ [];
          notes = notes_too seen may_leave log mark l.entries (Request index o) (noted l.entries l.notes);
          led = untold_led top index o mid l.entries (ready_led top before mid l.entries ready l.led) f after u;
        }

    pub turned_away_logged : (new : Log D) (after : List RunEvent) (f : Fault) → ((es : List Entry) (e : Entry) → NotesLast seen may_leave log mark es e → Notes seen may_leave new es)
        → IsTurnedAway top (session_node top index) o mid f after → IsLogged seen may_leave top old before → IsLogged seen may_leave top new after
    turned_away_logged new after f back t l =
        record {
          entries = l.entries;
          notes = back l.entries (Request index o) (noted l.entries l.notes);
          led = turned_away_led top index o mid l.entries (ready_led top before mid l.entries ready l.led) f after t;
        }
