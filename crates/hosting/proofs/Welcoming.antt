-- A round of the doors, and who comes in it.
use Rattle.std.proofs.Common.{◌≡◌, ℕ, List, Option, Bool, refl, sym, subst, Result}
use Rattle.std.specs.Prelude.{Ok, Err, OnOk, true, false, is_ok}
use Rattle.logical_time.specs.declared.fault.Fault.{Fault}
use Rattle.messages.specs.declared.op.Op.{Op}
use Rattle.readiness.specs.declared.connection.TheConstants.{LIMIT}
use Rattle.readiness.specs.Lines.{ReadyValue}
use Rattle.readiness.specs.Exchanges.{Entry}
use Rattle.doors.specs.declared.listening.Doors.{Doors}
use Rattle.doors.specs.Rounds.{Round, RoundSettled}
use Rattle.doors.specs.Spans.{Spans}
use Rattle.site_port.specs.Port.{SessionsValue, port_of, kept_of, IsStep, AreLeft}
use Rattle.threaded.specs.Machines.{Refuses}
use Rattle.ways.specs.Crossings.{Crossing}
use Rattle.hosting.specs.declared.marks.Marks.{Marks}
use Rattle.hosting.specs.Rounds.{due, AreMarked, SettlesFirst, AreWelcomed, HasRounded}

module _ {L : Type 0} {D : Type 0} {W : Type 0} {K : Type 0} (settles : SessionsValue K → Result (Unit {0}) Fault → SessionsValue K → Type 0) (crosses : W → Crossing → W → Type 0) (is_behind : W → Bool) (seen : L → ReadyValue) (gives : D → Option L → D → Type 0)
    (nobody announces : D → Type 0) (time : ℕ) (doors : Doors L D) (port : SessionsValue K) (ways : W) (marks : Marks) (before : SessionsValue K) (ways_then : W) (marks_then : Marks) (d : Doors L D) (answered : SessionsValue K)
    (passed : SettlesFirst settles crosses (due marks time) port ways before ways_then) (marked : AreMarked time port.site.site before.site.site marks marks_then) where
  abbrev Asked : SessionsValue K → Type 0
  Asked begun = Spans seen (IsStep Refuses) gives doors.idle doors.door doors.hall.places.places.items (port_of begun) d.door d.hall.places.places.items (port_of answered)

  abbrev Told : SessionsValue K → Result (Unit {0}) Fault → Type 0
  Told begun result = RoundSettled {T = Unit {0}} seen kept_of settles doors.hall.places.places.items begun d.hall.places.places.items answered result

  abbrev Rounds : SessionsValue K → Type 0
  Rounds begun = (log : List Entry) × Round LIMIT seen (IsStep Refuses) nobody announces time log doors (port_of begun) d (port_of answered)

  -- The doors weren't refused. The order of the free places may be another since then.
  pub rounded_ok : (begun : SessionsValue K) → begun ≡ record before { behind = is_behind ways_then } → Asked begun → (result : Result (Unit {0}) Fault) (doors_then : Doors L D) (port_then : SessionsValue K) → result ≡ Ok tt → Told begun result
      → OnOk result (Rounds begun) → doors_then ≡ record d { hall = record d.hall { free = doors_then.hall.free } } → AreLeft d.hall.fresh.items answered.waiting port_then.waiting → port_then ≡ record answered { waiting = port_then.waiting }
      → HasRounded settles crosses is_behind seen gives nobody announces time doors port ways marks doors_then port_then ways_then marks_then result
  rounded_ok begun begins asked result doors_then port_then is told round same left stays =
      let had : Rounds (record before { behind = is_behind ways_then }) = subst (λ (b : SessionsValue K). Rounds b) begins (subst (λ (z : Result (Unit {0}) Fault). OnOk z (Rounds begun)) is round) in
      let r = had.1 in
      subst (λ (z : Result (Unit {0}) Fault). HasRounded settles crosses is_behind seen gives nobody announces time doors port ways marks doors_then port_then ways_then marks_then z) (sym is)
      (subst (λ (z : Doors L D). HasRounded settles crosses is_behind seen gives nobody announces time doors port ways marks z port_then ways_then marks_then (Ok tt)) (sym same)
      (record {
        before = before;
        passed = passed;
        marked = marked;
        answered = answered;
        asked = subst (λ (b : SessionsValue K). Asked b) begins asked;
        told = subst (λ (b : SessionsValue K). Told b (Ok tt)) begins (subst (λ (z : Result (Unit {0}) Fault). Told begun z) is told);
        welcomed = record {
          log = had.0;
          round = record {
            turned = r.turned;
            closed = r.closed;
            left = r.left;
            over = r.over;
            turns = r.turns;
            rests = r.rests;
            leaves = r.leaves;
            away = r.away;
            marked = r.marked;
            room = r.room;
            comes = r.comes;
            fresh = r.fresh;
          };
          left = left;
          stays = stays;
        };
      }))

pub is_fine : (result : Result (Unit {0}) Fault) → is_ok result ≡ true → result ≡ Ok tt
is_fine (Ok u) q = refl
is_fine (Err fault) q = absurd (false_true q)
  where
    false_true : false ≡ true → ⊥
    false_true e = cc
