-- What a world keeps stands for its run after each event.
use Rattle.std.proofs.Common.{◌≡◌, ◌∙◌, ℕ, ◌+◌, ◌<◌, ◌≤◌, zero, suc, Bool, true, false, ◌||◌, List, [], ◌∷◌, ◌++◌, map, length, Option, Some, None, inl, inr, refl, sym, ap, subst, arith, eqb-true, eq-eqb, leb-true, ltb-true, slice_get}
use Rattle.std.specs.Prelude.{◌==◌, filter_map, option_map, option_to_list, find, not, nat_lt, nat_le, ◌↔◌}
use Rattle.std.specs.List.{list_any, range_with_len, cons_option}
use Rattle.std.specs.Prelude.{if◌then◌else◌}
use Rattle.std.proofs.lemmas.Bool.{false≢true, and_parts}
use Rattle.std.proofs.lemmas.Bool.Decides.{nat_tests}
use Rattle.std.proofs.lemmas.List.{map-append}
use Rattle.std.proofs.lemmas.List.Elements.{filter_map-append}
use Rattle.std.proofs.lemmas.List.Folds.{list_any-append}
use Rattle.logical_time.specs.declared.fault.Fault.{Fault}
use Rattle.logical_time.specs.Stamps.{TxnValue}
use Rattle.column_family.specs.declared.batch.Change.{Change}
use Rattle.messages.specs.Clock.{ticked, on_clock}
use Rattle.messages.specs.Submitting.{begun, submit_fault, submit_if as submitted_if, session_submit}
use Rattle.messages.specs.declared.op.Op.{Op}
use Rattle.messages.specs.declared.envelope.Envelope.{Envelope}
use Rattle.messages.specs.Topology.{TopologyValue, is_shard, is_session, is_topology, shard_count, node_count}
use Rattle.world.specs.declared.actors.Actors.{Actors}
use Rattle.world.specs.declared.log.Log.{Log}
use Rattle.world.specs.declared.written.Written.{Written}
use Rattle.world.specs.Run.{Run, RunEvent, Submission, Submit, Deliver, Collect, opening, submission_by, after_submission, submit_if, step, run}
use Rattle.world.specs.Refusals.{NoSuchActor, refused_by, refusal_of, clock_at}
use Rattle.world.specs.Quiet.{number_delivered, handled, IsQuiet}
use Rattle.world.specs.Lookups.{first_unhandled}
use Rattle.world.specs.Delivered.{is_marked, IsFirstUnmarked}
use Rattle.world.specs.Log.{IsSameLog, written_by}
use Rattle.world.specs.Asked.{write_of, write_noted}
use Rattle.world.specs.Histories.{batch_in}
use Rattle.world.specs.Holds.{IsRunning, HasTaken, Holds}
use Rattle.world.specs.World.{WorldValue, Takes, run_of}
use Rattle.world.proofs.worked.Replayed.{continued_push}
use Rattle.world.proofs.steps.Refusals.{allowed_is_added}
use Rattle.world.proofs.steps.EventCases.{event_cases}
use Rattle.world.proofs.steps.Begun.{begins}
use Rattle.world.proofs.quiet.Unhandled.{finds_unhandled}
use Rattle.world.proofs.lists.Members.{contains_get}
use Rattle.world.proofs.envelopes.Addressed.{messages_are_for_actors}

-- ## Marks

both_ways : (j k : ℕ) → (j == k) ≡ (k == j)
both_ways j k = go (j == k) refl
  where
    go : (b : Bool) → (j == k) ≡ b → b ≡ (k == j)
    go true e = sym (eq-eqb k j (sym (eqb-true j k e)))
    go false e = other (k == j) refl
      where
        other : (c : Bool) → (k == j) ≡ c → false ≡ c
        other true f = absurd (false≢true (sym e ∙ eq-eqb j k (sym (eqb-true k j f))))
        other false f = refl

or_other : (b c : Bool) → (b || c) ≡ (c || b)
or_other true true = refl
or_other true false = refl
or_other false true = refl
or_other false false = refl

or_false : (b : Bool) → (b || false) ≡ b
or_false true = refl
or_false false = refl

module _ (top : TopologyValue) (events : List RunEvent) (x : RunEvent) (kept : (run top events).events ≡ events) (allowed : refusal_of top (run top events) x ≡ None) where
  added : (run top (events ++ x ∷ [])).events ≡ events ++ x ∷ []
  added =
      ap (λ (w : Run). w.events) (continued_push top (opening top) events x) ∙ allowed_is_added top (run top events) x allowed ∙ ap (λ l. l ++ x ∷ []) kept

  was_handled : (k : ℕ) → list_any (λ j. j == k) (handled (run top (events ++ x ∷ [])))
      ≡ (list_any (λ j. j == k) (handled (run top events)) || list_any (λ j. j == k) (filter_map number_delivered (x ∷ [])))
  was_handled k =
      ap (λ l. list_any (λ j. j == k) (filter_map number_delivered l)) added
      ∙ ap (list_any (λ j. j == k)) (filter_map-append number_delivered events (x ∷ []))
      ∙ list_any-append (λ j. j == k) (filter_map number_delivered events) (filter_map number_delivered (x ∷ []))
      ∙ ap (λ l. list_any (λ j. j == k) (filter_map number_delivered l) || list_any (λ j. j == k) (filter_map number_delivered (x ∷ []))) (sym kept)

-- ## Events

same_running : (top : TopologyValue) (xs ys : List RunEvent) (a : Actors) → xs ≡ ys → IsRunning top (run top xs) a → IsRunning top (run top ys) a
same_running top xs ys a e is = subst (λ l. IsRunning top (run top l) a) e is

-- where nothing was noted, and the actors stand for what they stood for
pub still_holds : (a b : Actors) (l m : Log) → Holds a.topology a l → IsSameLog l m
    → ((top : TopologyValue) (events : List RunEvent) → IsRunning top (run top events) a → IsRunning top (run top events) b) → b.topology ≡ a.topology → Holds b.topology b m
still_holds a b l m h same still top =
    subst (λ t. Holds t b m) (sym top)
    (record {
      events = subst (λ es. (run a.topology es).events ≡ es) (sym same.events) h.events;
      running = same_running a.topology _ _ b (sym same.events) (still a.topology l.events.items h.running);
      delivered = λ k. same.delivered k ∙ h.delivered k ∙ ap (λ es. list_any (λ j. j == k) (handled (run a.topology es))) (sym same.events);
      writes = ap (map write_noted) same.writes ∙ h.writes ∙ ap (λ es. filter_map write_of (run a.topology es).submitted) (sym same.events);
    })

pub still_logged : (a : Actors) (l m : Log) → Holds a.topology a l → IsSameLog l m → Holds a.topology a m
still_logged a l m h same = still_holds a a l m h same (λ top events is. is) refl

-- what was noted of an event that was taken
record Notes (top : TopologyValue) (x : RunEvent) (l m : Log) : Type 0 where
  events : m.events.items ≡ l.events.items ++ x ∷ []
  delivered : (k : ℕ) → is_marked m.delivered.marks k ≡ (is_marked l.delivered.marks k || list_any (λ j. j == k) (filter_map number_delivered (x ∷ [])))
  writes : map write_noted m.writes.items ≡ filter_map write_of (step top (run top l.events.items) x).submitted

noted : (a b : Actors) (l m : Log) (x : RunEvent) → Holds a.topology a l → HasTaken a.topology l.events.items x b → Notes a.topology x l m → b.topology ≡ a.topology
    → Holds b.topology b m
noted a b l m x h taken notes top =
    let pushed = continued_push a.topology (opening a.topology) l.events.items x in
    subst (λ t. Holds t b m) (sym top)
    (record {
      events = subst (λ es. (run a.topology es).events ≡ es) (sym notes.events) (added a.topology l.events.items x h.events taken.allowed);
      running = same_running a.topology _ _ b (sym notes.events) (subst (λ w. IsRunning a.topology w b) (sym pushed) taken.running);
      delivered = λ k.
          notes.delivered k ∙ ap (λ c. c || list_any (λ j. j == k) (filter_map number_delivered (x ∷ []))) (h.delivered k)
          ∙ sym (was_handled a.topology l.events.items x h.events taken.allowed k)
          ∙ ap (λ es. list_any (λ j. j == k) (handled (run a.topology es))) (sym notes.events);
      writes =
          notes.writes ∙ ap (λ (w : Run). filter_map write_of w.submitted) (sym pushed)
          ∙ ap (λ es. filter_map write_of (run a.topology es).submitted) (sym notes.events);
    })

-- the actors took the event, after rooms were made for noting it
abbrev pub Took : Actors → Actors → RunEvent → Type 0
Took a b x = (top : TopologyValue) (events : List RunEvent) → IsRunning top (run top events) a → HasTaken top events x b

taken_at : (a b : Actors) (l m : Log) (x : RunEvent) → Holds a.topology a l → IsSameLog l m → Took a b x → HasTaken a.topology m.events.items x b
taken_at a b l m x h same took = took a.topology m.events.items (same_running a.topology _ _ a (sym same.events) h.running)

-- a run's submissions stay with deliveries and collections
same_submitted : (top : TopologyValue) (w : Run) (k : ℕ) → (step top w (Deliver k)).submitted ≡ w.submitted
same_submitted top w k = event_cases top w (Deliver k) (λ v. v.submitted ≡ w.submitted) (record { nothing = refl; handled = λ j e n is sent to. refl; heard = λ j e n is sent other to. refl; begun = λ node o n is to. absurd (let no : Deliver k ≡ Submit node o = is in cc); collected = λ node time n is. refl })

same_submitted_so : (top : TopologyValue) (w : Run) (node time : ℕ) → (step top w (Collect node time)).submitted ≡ w.submitted
same_submitted_so top w node time = event_cases top w (Collect node time) (λ v. v.submitted ≡ w.submitted) (record { nothing = refl; handled = λ j e n is sent to. refl; heard = λ j e n is sent other to. refl; begun = λ node o n is to. absurd (let no : Collect _ _ ≡ Submit node o = is in cc); collected = λ node time n is. refl })

-- what was noted of the writes stays when another event comes
unwritten : {w v : List Submission} (m n : Log) → map write_noted m.writes.items ≡ filter_map write_of w → n.writes ≡ m.writes → v ≡ w
    → map write_noted n.writes.items ≡ filter_map write_of v
unwritten {w} {v} m n noted writes same = ap (λ ws. map write_noted ws.items) writes ∙ noted ∙ ap (filter_map write_of) (sym same)

pub delivery_holds : (a b : Actors) (l m n : Log) (number : ℕ) → Holds a.topology a l → IsSameLog l m → Took a b (Deliver number) → b.topology ≡ a.topology
    → n.events.items ≡ m.events.items ++ Deliver number ∷ [] → n.writes ≡ m.writes
    → ((k : ℕ) → is_marked n.delivered.marks k ≡ (k == number || is_marked m.delivered.marks k)) → Holds b.topology b n
delivery_holds a b l m n number h same took top events writes marks =
    let g = still_logged a l m h same in
    noted a b m n (Deliver number) g (taken_at a b l m (Deliver number) h same took)
    (record {
      events = events;
      delivered = λ k.
          marks k ∙ or_other (k == number) (is_marked m.delivered.marks k)
          ∙ ap (λ c. is_marked m.delivered.marks k || c) (both_ways k number ∙ sym (or_false (number == k)));
      writes = unwritten m n g.writes writes (same_submitted a.topology (run a.topology m.events.items) number);
    })
    top

pub collection_holds : (a b : Actors) (l m n : Log) (shard time : ℕ) → Holds a.topology a l → IsSameLog l m → Took a b (Collect shard time) → b.topology ≡ a.topology
    → n.events.items ≡ m.events.items ++ Collect shard time ∷ [] → n.writes ≡ m.writes → n.delivered ≡ m.delivered → Holds b.topology b n
collection_holds a b l m n shard time h same took top events writes marks =
    let g = still_logged a l m h same in
    noted a b m n (Collect shard time) g (taken_at a b l m (Collect shard time) h same took)
    (record {
      events = events;
      delivered = λ k. ap (λ d. is_marked d.marks k) marks ∙ sym (or_false (is_marked m.delivered.marks k));
      writes = unwritten m n g.writes writes (same_submitted_so a.topology (run a.topology m.events.items) shard time);
    })
    top

-- ## Submissions

-- the write of an operation under this number, if it is one
abbrev pub write_by : ℕ → ℕ → Op → Option (TxnValue × List Change)
write_by node number o = option_map (λ batch. (record { session = node; number = number }, batch)) (batch_in o)

-- an accepted submission is the run's last, under the next number
pub writes_last : (top : TopologyValue) (w : Run) (node : ℕ) (o : Op) → refusal_of top w (Submit node o) ≡ None
    → filter_map write_of (step top w (Submit node o)).submitted ≡ filter_map write_of w.submitted ++ option_to_list (write_by node ((w.sessions node).count + 1) o)
writes_last top w node o allowed = by (is_session top node) refl
  where
    Last : Run → Type 0
    Last v = filter_map write_of v.submitted ≡ filter_map write_of w.submitted ++ option_to_list (write_by node ((w.sessions node).count + 1) o)

    alone : (z : Option (TxnValue × List Change)) → cons_option z [] ≡ option_to_list z
    alone None = refl
    alone (Some p) = refl

    one : (c : ℕ) (s : Submission) → s.session ≡ node → s.number ≡ c → s.op ≡ o → filter_map write_of (s ∷ []) ≡ option_to_list (write_by node c o)
    one c s is number op =
        alone (write_of s) ∙ ap (λ p. option_to_list (option_map (λ (b : List Change). (record { session = s.session; number = s.number }, b)) (batch_in p))) op
        ∙ ap (λ (z : ℕ). option_to_list (option_map (λ (b : List Change). (record { session = z; number = s.number }, b)) (batch_in o))) is
        ∙ ap (λ (z : ℕ). option_to_list (option_map (λ (b : List Change). (record { session = node; number = z }, b)) (batch_in o))) number

    go : (f : Option Fault) (c : Option ℕ) → refused_by (submitted_if f top node (w.sessions node) o) ≡ None → submit_fault top (w.sessions node) o ≡ f
        → ticked (w.sessions node).clock (w.sessions node).clock ≡ c
        → Last (after_submission (session_submit top node (w.sessions node) o) w node o)
    go (Some e) c free fault clock = absurd (cc)
    go None None free fault clock =
        absurd (let q = ap (λ z. refused_by (on_clock z (λ n. begun top node n (w.sessions node) o))) (sym clock) ∙ free in cc)
    go None (Some n) free fault clock =
        ap (λ z. filter_map write_of (after_submission z w node o).submitted)
        (ap (λ z. submitted_if z top node (w.sessions node) o) fault ∙ ap (λ z. on_clock z (λ n. begun top node n (w.sessions node) o)) clock)
        ∙ filter_map-append write_of w.submitted (submission_by w node o (begun top node n (w.sessions node) o) ∷ [])
        ∙ ap (λ l. filter_map write_of w.submitted ++ l) (one ((w.sessions node).count + 1) (submission_by w node o (begun top node n (w.sessions node) o)) refl (begins top node n (w.sessions node) o).count refl)

    by : (b : Bool) → is_session top node ≡ b → Last (step top w (Submit node o))
    by false is = absurd (let q = ap (λ b. if b then refused_by (session_submit top node (w.sessions node) o) else Some NoSuchActor) (sym is) ∙ allowed in cc)
    by true is =
        ap (λ b. filter_map write_of (submit_if b top w node o).submitted) is
        ∙ go (submit_fault top (w.sessions node) o) (ticked (w.sessions node).clock (w.sessions node).clock)
        (sym (ap (λ b. if b then refused_by (session_submit top node (w.sessions node) o) else Some NoSuchActor) is) ∙ allowed) refl refl

-- what is noted of an accepted operation tells its write
noted_last : (node number : ℕ) (batch : Option (List Change))
    → map write_noted (written_by node number batch) ≡ option_to_list (option_map (λ (b : List Change). (record { session = node; number = number }, b)) batch)
noted_last node number None = refl
noted_last node number (Some b) = refl

written : (xs zs : List Written) (ys vs : List (TxnValue × List Change)) (node number : ℕ) (o : Op) (batch : Option (List Change)) → map write_noted xs ≡ ys
    → zs ≡ xs ++ written_by node number batch → batch ≡ batch_in o → vs ≡ ys ++ option_to_list (write_by node number o) → map write_noted zs ≡ vs
written xs zs ys vs node number o batch noted added is told =
    ap (map write_noted) added ∙ map-append write_noted xs (written_by node number batch) ∙ ap (λ l. l ++ map write_noted (written_by node number batch)) noted
    ∙ ap (λ l. ys ++ l) (noted_last node number batch ∙ ap (λ z. option_to_list (option_map (λ (b : List Change). (record { session = node; number = number }, b)) z)) is) ∙ sym told

pub submission_holds : (a b : Actors) (l m n : Log) (session number : ℕ) (o told : Op) (batch : Option (List Change)) → Holds a.topology a l → IsSameLog l m
    → ((top : TopologyValue) (events : List RunEvent) → IsRunning top (run top events) a → HasTaken top events (Submit session o) b × (number ≡ ((run top events).sessions session).count + 1))
    → b.topology ≡ a.topology → told ≡ o → batch ≡ batch_in o
    → n.events.items ≡ m.events.items ++ Submit session told ∷ [] → n.writes.items ≡ m.writes.items ++ written_by session number batch
    → n.delivered ≡ m.delivered → Holds b.topology b n
submission_holds a b l m n session number o told batch h same took top same_told same_batch events writes marks =
    let g = still_logged a l m h same in
    let t = took a.topology m.events.items g.running in
    let w = run a.topology m.events.items in
    noted a b m n (Submit session o) g t.0
    (record {
      events = events ∙ ap (λ z. m.events.items ++ Submit session z ∷ []) same_told;
      delivered = λ k. ap (λ d. is_marked d.marks k) marks ∙ sym (or_false (is_marked m.delivered.marks k));
      writes =
          written m.writes.items n.writes.items (filter_map write_of w.submitted) (filter_map write_of (step a.topology w (Submit session o)).submitted) session number o batch g.writes
          writes same_batch (writes_last a.topology w session o t.0.allowed ∙ ap (λ c. filter_map write_of w.submitted ++ option_to_list (write_by session c o)) (sym t.1));
    })
    top

-- ## What a call says

pub takes : (a b : Actors) (l n : Log) (x : RunEvent) → Holds a.topology a l → Took a b x → b.topology ≡ a.topology → n.events.items ≡ l.events.items ++ x ∷ []
    → Takes (record { top = a.topology; events = l.events.items }) x (record { top = b.topology; events = n.events.items })
takes a b l n x h took top events =
    record {
      allowed = (took a.topology l.events.items h.running).allowed;
      happened = ap (λ t. record { top = t; events = n.events.items }) top ∙ ap (λ es. record { top = a.topology; events = es }) events;
    }

-- ## The first that wasn't delivered

find_unmarked : (p : ℕ → Bool) (a n first : ℕ) → a ≤ first → ((j : ℕ) → a ≤ j → j < first → p j ≡ false) → p first ≡ true
    → find p (range_with_len a n) ≡ (if nat_lt first (a + n) then Some first else None)
find_unmarked p a zero first le before here = sym (ap (λ b. if b then Some first else None) (past first a le))
  where
    past : (first a : ℕ) → a ≤ first → nat_lt first (a + 0) ≡ false
    past first a le = grind (arith, nat_tests)
find_unmarked p a (suc n) first le before here = go (a == first) refl (λ lt. find_unmarked p (a + 1) n first lt (λ j more less. before j (omega arith) less) here)
  where
    near : (a n first : ℕ) → a ≡ first → nat_lt first (a + suc n) ≡ true
    near a n first is = grind (arith, nat_tests)

    far : (a n first : ℕ) → nat_lt first (a + 1 + n) ≡ nat_lt first (a + suc n)
    far a n first = ap (nat_lt first) (omega arith)

    above : (a first : ℕ) → a ≤ first → (a == first) ≡ false → a + 1 ≤ first
    above a first le e = grind (arith, nat_tests)

    go : (b : Bool) → (a == first) ≡ b → (a + 1 ≤ first → find p (range_with_len (a + 1) n) ≡ (if nat_lt first (a + 1 + n) then Some first else None))
        → (if p a then Some a else find p (range_with_len (a + 1) n)) ≡ (if nat_lt first (a + suc n) then Some first else None)
    go true e rest =
        let is : a ≡ first = eqb-true a first e in
        ap (λ b. if b then Some a else find p (range_with_len (a + 1) n)) (ap p is ∙ here) ∙ ap Some is
        ∙ sym (ap (λ b. if b then Some first else None) (near a n first is))
    go false e rest =
        let lt : a + 1 ≤ first = above a first le e in
        ap (λ b. if b then Some a else find p (range_with_len (a + 1) n)) (before a (omega arith) (omega arith)) ∙ rest lt
        ∙ ap (λ b. if b then Some first else None) (far a n first)

from_zero : (n : ℕ) → 0 + n ≡ n
from_zero n = omega arith

pub first_found : (a : Actors) (l : Log) (first : ℕ) → Holds a.topology a l → IsFirstUnmarked l.delivered.marks first
    → first_unhandled (run a.topology l.events.items) ≡ (if nat_lt first (length (run a.topology l.events.items).sent) then Some first else None)
first_found a l first h is =
    find_unmarked (λ k. not (list_any (λ j. j == k) (handled (run a.topology l.events.items)))) 0 (length (run a.topology l.events.items).sent) first (omega arith)
    (λ j le lt. ap not (sym (h.delivered j) ∙ is.before j lt)) (ap not (sym (h.delivered first) ∙ is.here))
    ∙ ap (λ n. if nat_lt first n then Some first else None) (from_zero (length (run a.topology l.events.items).sent))

-- ## Whom messages are for

shard_below : (top : TopologyValue) (node n m : ℕ) → n ≡ shard_count top → is_shard top node ≡ true → node < n + m
shard_below top node n m e is = let lt = ltb-true node (shard_count top) is in omega arith

session_below : (top : TopologyValue) (node n m : ℕ) → n ≡ shard_count top → m ≡ length top.homes → is_session top node ≡ true → (n ≤ node) × (node < n + m)
session_below top node n m e f is =
    let p = and_parts (nat_le (shard_count top) node) (nat_lt node (node_count top)) is in
    let le = leb-true (shard_count top) node p.0 in
    let lt = ltb-true node (node_count top) p.1 in
    (omega arith, omega arith)

pub addressed : (a : Actors) (l : Log) (number : ℕ) (e : Envelope) → Holds a.topology a l → slice_get a.network.sent number ≡ Some e
    → e.to < length a.shards.items + length a.stations.items
addressed a l number e h at =
    let top = a.topology in
    let r = h.running in
    let there = ap (λ z. slice_get z number) r.sent ∙ at in
    elim (messages_are_for_actors top l.events.items r.sound e (contains_get (run top l.events.items).sent number e there)) [
      | inl shard ↦ shard_below top e.to (length a.shards.items) (length a.stations.items) r.shards.len shard
      | inr session ↦ (session_below top e.to (length a.shards.items) (length a.stations.items) r.shards.len r.stations.len session).1
    ]

pub station_from : (a : Actors) (l : Log) (node : ℕ) → Holds a.topology a l → is_session a.topology node ≡ true → length a.shards.items ≤ node
station_from a l node h is = (session_below a.topology node (length a.shards.items) (length a.stations.items) h.running.shards.len h.running.stations.len is).0

pub station_below : (a : Actors) (l : Log) (node : ℕ) → Holds a.topology a l → is_session a.topology node ≡ true → node < length a.shards.items + length a.stations.items
station_below a l node h is = (session_below a.topology node (length a.shards.items) (length a.stations.items) h.running.shards.len h.running.stations.len is).1

pub shard_place : (a : Actors) (l : Log) (node : ℕ) → Holds a.topology a l → is_shard a.topology node ≡ true → node < length a.shards.items
shard_place a l node h is = subst (λ n. node < n) (sym h.running.shards.len) (ltb-true node (shard_count a.topology) is)

pub sent_number : (a : Actors) (l : Log) (number : ℕ) → Holds a.topology a l → number < length (run a.topology l.events.items).sent → number < length a.network.sent
sent_number a l number h lt = subst (λ (z : List Envelope). number < length z) h.running.sent lt

-- ## What is told

pub told_topology : (a : Actors) (l : Log) → Holds a.topology a l → is_topology a.topology.dcs a.topology.shards a.topology.homes ≡ true
told_topology a l h = h.running.sound

pub told_clock : (a : Actors) (l : Log) (node clock : ℕ) → Holds a.topology a l → is_shard a.topology node ≡ true → clock_at a.topology (run a.topology l.events.items) node ≡ clock
    → clock ≡ ((run a.topology l.events.items).shards node).clock
told_clock a l node clock h is at =
    let w = run a.topology l.events.items in sym at ∙ ap (λ b. if b then (w.shards node).clock else (w.sessions node).clock) is

pub told_sent : (a : Actors) (l : Log) → Holds a.topology a l → a.network.sent ≡ (run a.topology l.events.items).sent
told_sent a l h = sym h.running.sent

pub told_transcript : (a : Actors) (l : Log) → Holds a.topology a l → a.transcript.items ≡ (run a.topology l.events.items).transcript
told_transcript a l h = sym h.running.transcript

pub told_quiet : (top : TopologyValue) (events : List RunEvent) → (first_unhandled (run top events) ≡ None) ↔ IsQuiet (run top events)
told_quiet top events = (finds_unhandled (run top events)).none

pub first_is : (v : WorldValue) (a : Actors) (l : Log) (first sent : ℕ) → Holds a.topology a l → v ≡ record { top = a.topology; events = l.events.items }
    → IsFirstUnmarked l.delivered.marks first → sent ≡ length (run_of v).sent → first < sent → Some first ≡ first_unhandled (run_of v)
first_is v a l first sent h is marks all lt =
    let n = length (run a.topology l.events.items).sent in
    let lt' : first < n = subst (λ z. first < z) (all ∙ ap (λ (z : WorldValue). length (run_of z).sent) is) lt in
    sym (ap (λ (z : WorldValue). first_unhandled (run_of z)) is ∙ first_found a l first h marks ∙ ap (λ b. if b then Some first else None) (below first n lt'))
  where
    below : (k n : ℕ) → k < n → nat_lt k n ≡ true
    below k n lt = grind (arith, nat_tests)

pub first_none : (v : WorldValue) (a : Actors) (l : Log) (first sent : ℕ) → Holds a.topology a l → v ≡ record { top = a.topology; events = l.events.items }
    → IsFirstUnmarked l.delivered.marks first → sent ≡ length (run_of v).sent → sent ≤ first → None ≡ first_unhandled (run_of v)
first_none v a l first sent h is marks all lt =
    let n = length (run a.topology l.events.items).sent in
    let lt' : n ≤ first = subst (λ z. z ≤ first) (all ∙ ap (λ (z : WorldValue). length (run_of z).sent) is) lt in
    sym (ap (λ (z : WorldValue). first_unhandled (run_of z)) is ∙ first_found a l first h marks ∙ ap (λ b. if b then Some first else None) (above first n lt'))
  where
    above : (k n : ℕ) → n ≤ k → nat_lt k n ≡ false
    above k n lt = grind (arith, nat_tests)
