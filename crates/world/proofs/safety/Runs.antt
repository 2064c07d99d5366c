-- All holds of every run, and a run grows with each event.
use Rattle.std.proofs.Common.{◌≡◌, ◌<◌, List, [], ◌∷◌, ◌++◌, refl, le_refl, le_trans}
use Rattle.store.proofs.lists.Lists.{none_in_empty}
use Rattle.messages.specs.Topology.{TopologyValue}
use Rattle.messages.specs.Session.{SessionState}
use Rattle.world.specs.Run.{Run, RunEvent, opening, step, continued, run}
use Rattle.world.proofs.growing.Growth.{SessionGrows, Grows}
use Rattle.world.proofs.safety.Invariant.{Inv}
use Rattle.world.proofs.safety.Ables.{same_run, then_grows}
use Rattle.world.proofs.keeping.Events.{event_kept}

pub opening_holds : (top : TopologyValue) → Inv top (opening top)
opening_holds top =
    record {
      shards = λ node.
          record {
            prepared = λ p m. absurd (none_in_empty p m);
            ballots = λ b m. absurd (none_in_empty b m);
            early = λ v m. absurd (none_in_empty v m);
            votes = λ v m. absurd (none_in_empty v m);
            decided = λ d m. absurd (none_in_empty d m);
            once = tt;
            applied = λ v m. absurd (none_in_empty v m);
            kept_parts = λ k m. absurd (none_in_empty k m);
            kept_ballots = λ r m. absurd (none_in_empty r m);
            met = λ u m. absurd (none_in_empty u m);
            askers = λ k m. absurd (none_in_empty k m);
          };
      played = λ node. record { events = []; state = refl; handled = λ e has. absurd (none_in_empty e has); answers = λ e m from is. absurd (none_in_empty e m) };
      sessions = λ node.
          record {
            floor = le_refl _;
            current = tt;
            dependencies = λ k m. absurd (none_in_empty k m);
            placed = λ k m. absurd (none_in_empty k m);
            taken = refl;
          };
      sent = λ e m. absurd (none_in_empty e m);
      submitted =
          record {
            accepted = λ b m. absurd (none_in_empty b m);
            number = λ b m. absurd (none_in_empty b m);
            one = λ b c m. absurd (none_in_empty b m);
            placed = λ b k m. absurd (none_in_empty b m);
          };
      transcript = λ c m. absurd (none_in_empty c m);
    }

then_session_grows : {top : TopologyValue} {a b c : SessionState} → SessionGrows top a b → SessionGrows top b c → SessionGrows top a c
then_session_grows f g =
    record {
      clock = le_trans f.clock g.clock;
      count = le_trans f.count g.count;
      asked_now = λ number node asked k. g.asked_now number node asked (f.asked_now number node asked k);
      asked_at = λ number time node asked k. g.asked_at number time node asked (f.asked_at number time node asked k);
    }

pub then_run_grows : {top : TopologyValue} {w x y : Run} → Grows top w x → Grows top x y → Grows top w y
then_run_grows f g =
    record {
      shards = λ node. then_grows (f.shards node) (g.shards node);
      sessions = λ node. then_session_grows (f.sessions node) (g.sessions node);
      submitted = λ b m. g.submitted b (f.submitted b m);
      transcript = λ c m. g.transcript c (f.transcript c m);
    }

-- the run of events and then others goes on from the run of the first
pub run_after : (top : TopologyValue) (w : Run) (xs ys : List RunEvent) → continued top w (xs ++ ys) ≡ continued top (continued top w xs) ys
run_after top w [] ys = refl
run_after top w (x ∷ xs) ys = run_after top (step top w x) xs ys

-- ## Every run

pub step_kept : (top : TopologyValue) (w : Run) (x : RunEvent) → 0 < top.shards → Inv top w → Inv top (step top w x)
step_kept top w x some inv = (event_kept top w some inv x).0

pub step_grows : (top : TopologyValue) (w : Run) (x : RunEvent) → 0 < top.shards → Inv top w → Grows top w (step top w x)
step_grows top w x some inv = (event_kept top w some inv x).1

pub run_kept : (top : TopologyValue) (w : Run) (events : List RunEvent) → 0 < top.shards → Inv top w → Inv top (continued top w events)
run_kept top w [] some inv = inv
run_kept top w (x ∷ xs) some inv = run_kept top (step top w x) xs some (step_kept top w x some inv)

pub run_grows : (top : TopologyValue) (w : Run) (events : List RunEvent) → 0 < top.shards → Inv top w → Grows top w (continued top w events)
run_grows top w [] some inv = same_run top w
run_grows top w (x ∷ xs) some inv = then_run_grows (step_grows top w x some inv) (run_grows top (step top w x) xs some (step_kept top w x some inv))

pub every_run : (top : TopologyValue) (events : List RunEvent) → 0 < top.shards → Inv top (run top events)
every_run top events some = run_kept top (opening top) events some (opening_holds top)
