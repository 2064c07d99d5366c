-- What a seat keeps, as it changes.
use Rattle.std.proofs.Common.{◌≡◌, ℕ, zero, suc, ◌<◌, ◌==◌, Bool, inl, inr, List, [], ◌∷◌, ◌++◌, length, Option, Some, None, refl, sym, subst, ◌∙◌, arith}
use Rattle.std.specs.Prelude.{All, Contains, IfSome, IsSome, filter_map, Result, Ok, Err, OnOk, OnErr}
use Rattle.std.specs.List.{slice_get}
use Rattle.std.proofs.lemmas.List.{append-nil}
use Rattle.std.proofs.lemmas.List.Elements.{filter_map-append, filter-append, Contains-append_cases}
use Rattle.messages.specs.declared.envelope.Envelope.{Envelope}
use Rattle.messages.specs.declared.outcome.Outcome.{Outcome}
use Rattle.messages.specs.declared.event.ActorEvent.{ActorEvent}
use Rattle.messages.specs.declared.event.ActorEvent.TheVariants.{Submit, Handle, Collect}
use Rattle.messages.specs.Actors.{envelope_of}
use Rattle.messages.specs.Topology.{TopologyValue}
use Rattle.links.specs.Links.{InLinkValue}
use Rattle.actors.specs.Journals.{submissions, IsOwn, IsBeginning, receipts_from, followed_by}
use Rattle.actors.specs.Turns.{HasDone, HasSameRings}
use Rattle.actors.specs.CameFrom.{CameFrom}
use Rattle.actors.specs.Machines.{IsRecorded}
use Rattle.actors.specs.Seats.{SeatValue, through, sources_of, Received, CameBy, Keeps}
use Rattle.actors.specs.Looking.{IsFoundInTurn}

receipts_more : (n : ℕ) (journal : List ActorEvent) (event : ActorEvent) → receipts_from n (journal ++ event ∷ []) ≡ receipts_from n journal ++ receipts_from n (event ∷ [])
receipts_more n journal event =
    rw (filter_map-append envelope_of journal (event ∷ [])) (filter-append (λ (e : Envelope). e.from == n) (filter_map envelope_of journal) (filter_map envelope_of (event ∷ [])))

none_received : (n : ℕ) (event : ActorEvent) → IsOwn event → receipts_from n (event ∷ []) ≡ []
none_received n (Submit o) own = refl
none_received n (Handle e) own = absurd cc
none_received n (Collect time) own = refl

receipts_own : (n : ℕ) (journal : List ActorEvent) (event : ActorEvent) → IsOwn event → receipts_from n (journal ++ event ∷ []) ≡ receipts_from n journal
receipts_own n journal event own = receipts_more n journal event ∙ (rw (none_received n event own) (append-nil (receipts_from n journal)))

-- ## By which ring an envelope came

only_one : {X : Type 0} (x y : X) → Contains (x ∷ []) y → x ≡ y
only_one x y (zero, lt, is) = is
only_one x y (suc k, lt, is) = absurd (omega arith)

handled_own : (links : List InLinkValue) (journal : List ActorEvent) (event : ActorEvent) → IsOwn event → ((e : Envelope) → Contains journal (Handle e) → CameBy links e)
    → (e : Envelope) → Contains (journal ++ event ∷ []) (Handle e) → CameBy links e
handled_own links journal event own before e has = elim (Contains-append_cases journal (event ∷ []) (Handle e) has) [
  | inl old ↦ before e old
  | inr new ↦ absurd (let none : envelope_of (Handle e) ≡ None = subst (λ x. IsOwn x) (only_one event (Handle e) new) own in cc)
]

handled_more : (links : List InLinkValue) (journal : List ActorEvent) (x : Envelope) → CameBy links x → ((e : Envelope) → Contains journal (Handle e) → CameBy links e)
    → (e : Envelope) → Contains (journal ++ Handle x ∷ []) (Handle e) → CameBy links e
handled_more links journal x by before e has = elim (Contains-append_cases journal (Handle x ∷ []) (Handle e) has) [
  | inl old ↦ before e old
  | inr new ↦
      let is : Handle x ≡ Handle e = only_one (Handle x) (Handle e) new in
      let same : x ≡ e = cc in
      subst (λ (z : Envelope). CameBy links z) same by
]

get_contains : {X : Type 0} (xs : List X) (k : ℕ) (x : X) → slice_get xs k ≡ Some x → Contains xs x
get_contains [] k x at = absurd cc
get_contains (y ∷ xs) zero x at = let is : y ≡ x = cc in (0, omega arith, is)
get_contains (y ∷ xs) (suc k) x at = let r = get_contains xs k x at in (suc r.0, omega (arith, r.1), r.2)

found_came : (links : List InLinkValue) (first after : ℕ) (e : Envelope) → IsFoundInTurn links first after e → CameBy links e
found_came links first after e (inl found) = get_contains (sources_of links) found.place e.from found.from
found_came links first after e (inr found) = get_contains (sources_of links) found.1.place e.from found.1.from

-- what is held after a look at the rings, where it wasn't held before, came by one of them
pub taken_came : {X : Type 0} (old new : Option Envelope) (was now : List InLinkValue) (first after : ℕ) → sources_of now ≡ sources_of was
    → (old ≡ None → IfSome new (λ e. IsFoundInTurn now first after e)) → (IsSome old → (new ≡ old) × X) → IfSome old (CameBy was) → IfSome new (CameBy now)
taken_came None None was now first after sources found kept came = tt
taken_came None (Some e) was now first after sources found kept came = found_came now first after e (found refl)
taken_came (Some x) new was now first after sources found kept came = rw ((kept refl).0, sources) came

module _ {M : Type 0} (came_from : CameFrom M) (untaken : M → Option (ℕ × Outcome)) where
  -- an event that no message brings
  pub kept_own : (machine next : M) (d n : SeatValue) (event : ActorEvent) → Keeps came_from untaken machine d → IsOwn event
      → IsRecorded came_from untaken n.topology n.node (through n.outgoing) next n.journal n.outcomes n.outbox n.accepted n.clock n.timed
      → n.journal ≡ d.journal ++ event ∷ [] → n.incoming ≡ d.incoming → n.held ≡ d.held → n.outgoing ≡ d.outgoing → All IsOwn n.backlog
      → n.topology ≡ d.topology → Keeps came_from untaken next n
  kept_own machine next d n event kept own recorded journal incoming held outgoing backlog topology = record {
    recorded = recorded;
    received = rw (journal, incoming, held) (λ k l at. kept.received k l at ∙ rw (receipts_own l.from d.journal event own) refl);
    ends = rw outgoing kept.ends;
    sources = rw incoming kept.sources;
    reached = rw (incoming, topology) kept.reached;
    handled = rw (journal, incoming) (handled_own d.incoming d.journal event own kept.handled);
    held_back = rw (held, incoming) kept.held_back;
    own = backlog;
  }

  -- the envelope that was held is handled
  pub kept_handled : (machine next : M) (d n : SeatValue) (e : Envelope) → Keeps came_from untaken machine d → d.held ≡ Some e
      → IsRecorded came_from untaken n.topology n.node (through n.outgoing) next n.journal n.outcomes n.outbox n.accepted n.clock n.timed
      → n.journal ≡ d.journal ++ Handle e ∷ [] → n.incoming ≡ d.incoming → n.held ≡ None → n.outgoing ≡ d.outgoing → n.backlog ≡ d.backlog
      → n.topology ≡ d.topology → Keeps came_from untaken next n
  kept_handled machine next d n e kept holds recorded journal incoming held outgoing backlog topology = record {
    recorded = recorded;
    received = rw (journal, incoming, held) (λ k l at. kept.received k l at ∙ (rw (holds, receipts_more l.from d.journal (Handle e)) (sym (append-nil _))));
    ends = rw outgoing kept.ends;
    sources = rw incoming kept.sources;
    reached = rw (incoming, topology) kept.reached;
    handled = rw (journal, incoming) (handled_more d.incoming d.journal e (subst (λ o. IfSome o (CameBy d.incoming)) holds kept.held_back) kept.handled);
    held_back = rw held tt;
    own = rw backlog kept.own;
  }

  -- nothing but the machine's inside and the backlog
  pub kept_same : (machine next : M) (d n : SeatValue) → Keeps came_from untaken machine d
      → IsRecorded came_from untaken n.topology n.node (through n.outgoing) next n.journal n.outcomes n.outbox n.accepted n.clock n.timed
      → n.journal ≡ d.journal → n.incoming ≡ d.incoming → n.held ≡ d.held → n.outgoing ≡ d.outgoing → All IsOwn n.backlog
      → n.topology ≡ d.topology → Keeps came_from untaken next n
  kept_same machine next d n kept recorded journal incoming held outgoing backlog topology = record {
    recorded = recorded;
    received = rw (journal, incoming, held) kept.received;
    ends = rw outgoing kept.ends;
    sources = rw incoming kept.sources;
    reached = rw (incoming, topology) kept.reached;
    handled = rw (journal, incoming) kept.handled;
    held_back = rw (held, incoming) kept.held_back;
    own = backlog;
  }

  -- a call did an event that no message brings, or nothing
  pub kept_did : {A B : Type 0} (r : Result A B) (machine next : M) (d n : SeatValue) (event : ActorEvent) → Keeps came_from untaken machine d → IsOwn event
      → OnOk r (IsRecorded came_from untaken n.topology n.node (through n.outgoing) next n.journal n.outcomes n.outbox n.accepted n.clock n.timed)
      → OnErr r (IsRecorded came_from untaken n.topology n.node (through n.outgoing) next n.journal n.outcomes n.outbox n.accepted n.clock n.timed)
      → OnOk r (n.journal ≡ d.journal ++ event ∷ []) → OnErr r ((n.journal ≡ d.journal) × (n.outcomes ≡ d.outcomes) × (n.outbox ≡ d.outbox) × (n.accepted ≡ d.accepted) × (n.clock ≡ d.clock) × (n.timed ≡ d.timed))
      → n.incoming ≡ d.incoming → n.held ≡ d.held → n.outgoing ≡ d.outgoing → All IsOwn n.backlog
      → n.topology ≡ d.topology → Keeps came_from untaken next n
  kept_did (Ok a) machine next d n event kept own done undone journal same incoming held outgoing backlog topology =
      kept_own machine next d n event kept own done journal incoming held outgoing backlog topology
  kept_did (Err b) machine next d n event kept own done undone journal same incoming held outgoing backlog topology =
      kept_same machine next d n kept undone same.0 incoming held outgoing backlog topology

  -- an envelope may have been taken from a ring
  pub kept_taken : (machine : M) (d n : SeatValue) → Keeps came_from untaken machine d
      → IsRecorded came_from untaken n.topology n.node (through n.outgoing) machine n.journal n.outcomes n.outbox n.accepted n.clock n.timed
      → sources_of n.incoming ≡ sources_of d.incoming → Received n.journal n.incoming n.held → n.outgoing ≡ d.outgoing → n.backlog ≡ d.backlog
      → n.topology ≡ d.topology → n.journal ≡ d.journal → IfSome n.held (CameBy n.incoming) → Keeps came_from untaken machine n
  kept_taken machine d n kept recorded sources received outgoing backlog topology journal came = record {
    recorded = recorded;
    received = received;
    ends = rw outgoing kept.ends;
    sources = rw sources kept.sources;
    reached = rw (sources, topology) kept.reached;
    handled = rw (journal, sources) kept.handled;
    held_back = came;
    own = rw backlog kept.own;
  }

  -- what waited moved on its way
  pub recorded_moved : (top : TopologyValue) (node : ℕ) (before after : ℕ → List Envelope) (machine : M) (journal : List ActorEvent) (outcomes : List (ℕ × Outcome)) (outbox rest : List Envelope) (count clock : ℕ) (timed : Bool)
      → IsRecorded came_from untaken top node before machine journal outcomes outbox count clock timed
      → ((n : ℕ) → followed_by after rest n ≡ followed_by before outbox n)
      → IsRecorded came_from untaken top node after machine journal outcomes rest count clock timed
  recorded_moved top node before after machine journal outcomes outbox rest count clock timed was same = record {
    sent = was.sent;
    goes = λ n. was.goes n ∙ sym (same n);
    past = was.past;
  }

  -- the count is kept, whether an event was done or not
  pub accepted_so : {A B : Type 0} (r : Result A B) (top : TopologyValue) (node : ℕ) (before : ℕ → List Envelope) (machine : M) (journal : List ActorEvent) (outcomes : List (ℕ × Outcome)) (outbox : List Envelope) (count clock : ℕ) (timed : Bool)
      → OnOk r (IsRecorded came_from untaken top node before machine journal outcomes outbox count clock timed)
      → OnErr r (IsRecorded came_from untaken top node before machine journal outcomes outbox count clock timed)
      → count ≡ submissions journal
  accepted_so (Ok a) top node before machine journal outcomes outbox count clock timed done undone = done.past.accepted
  accepted_so (Err b) top node before machine journal outcomes outbox count clock timed done undone = undone.past.accepted

pub has_done : {A B : Type 0} (r : Result A B) (d n : SeatValue) (event : ActorEvent)
    → OnOk r (length d.journal < d.limit) → OnOk r (n.journal ≡ d.journal ++ event ∷ []) → OnOk r (IsBeginning d.outcomes n.outcomes) → n.refusals ≡ d.refusals → n.topology ≡ d.topology → n.node ≡ d.node → n.limit ≡ d.limit → HasSameRings d n
    → OnOk r (HasDone event d n)
has_done (Ok a) d n event room journal outcomes refusals topology node limit rings =
    record { room = room; journal = journal; outcomes = outcomes; refusals = refusals; topology = topology; node = node; limit = limit; rings = rings }
has_done (Err b) d n event room journal outcomes refusals topology node limit rings = tt

pub own_first : (events rest : List ActorEvent) (event : ActorEvent) → events ≡ event ∷ rest → All IsOwn events → IsOwn event
own_first events rest event is own = first (subst (λ (es : List ActorEvent). All IsOwn es) is own)
  where
    first : All IsOwn (event ∷ rest) → IsOwn event
    first all = all 0 event (omega arith)

pub own_rest : (events rest : List ActorEvent) (event : ActorEvent) → events ≡ event ∷ rest → All IsOwn events → All IsOwn rest
own_rest events rest event is own = others (subst (λ (es : List ActorEvent). All IsOwn es) is own)
  where
    others : All IsOwn (event ∷ rest) → All IsOwn rest
    others all k d lt = all (suc k) d (omega arith)
