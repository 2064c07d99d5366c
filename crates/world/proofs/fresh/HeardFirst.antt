-- What a session heard of a shard in the first round of a read stays with it: the effective time isn't below the earliest
-- valid time of any row that was heard.
use Rattle.std.proofs.Common.{◌≡◌, ◌∙◌, ℕ, ◌+◌, ◌≤◌, ap, refl, sym, subst, arith, Bool, true, false, ◌&&◌, List, [], ◌∷◌, ◌++◌, Option, Some, None, eq-eqb}
use Rattle.std.specs.Prelude.{◌==◌, Contains}
use Rattle.logical_time.specs.Stamps.{WriterValue}
use Rattle.planner.proofs.Members.{contains_flat}
use Rattle.slice.specs.declared.read.Read.{Read}
use Rattle.messages.specs.declared.rows_now.RowNow.{RowNow}
use Rattle.messages.specs.declared.op.Op.{Op}
use Rattle.messages.specs.declared.outcome.Outcome.{Outcome}
use Rattle.messages.specs.declared.outcome.Outcome.TheVariants as outcome
use Rattle.messages.specs.declared.body.Body.{Body}
use Rattle.messages.specs.declared.body.Body.TheVariants.{PartNow}
use Rattle.messages.specs.Topology.{TopologyValue}
use Rattle.messages.specs.Session.{SessionState, Open, Idle, Writing, FirstRound, SecondRound, Moving, HeardNow, Finished, calm, ended}
use Rattle.messages.specs.Submitting.{begun}
use Rattle.messages.specs.Rounds.{asked_nodes, is_missing, all_heard, effective_time, late_nodes}
use Rattle.messages.specs.SessionEvents.{second_if, heard_if, heard_now, part_now_if, part_now_in, heard, session_taken}
use Rattle.messages.proofs.Greatest.{effective_above_each}
use Rattle.world.proofs.steps.HeardCases.{FirstAnswer, with_rows_now, heard_cases}
use Rattle.world.proofs.lists.Members.{Contains-push, Contains-append_left}
use Rattle.world.proofs.steps.Begun.{begins}

-- the time isn't below the earliest valid time of any row that was heard
abbrev pub IsTimely : HeardNow → ℕ → Type 0
IsTimely h time = (r : RowNow) → Contains h.rows r → r.evt ≤ time

-- the open read has heard this in its first round
abbrev pub HasHeard : Open → HeardNow → Type 0
HasHeard Idle h = Unit {0}
HasHeard (Writing coordinator) h = Unit {0}
HasHeard (FirstRound read heard) h = Contains heard h
HasHeard (SecondRound read time first heard) h = IsTimely h time
HasHeard (Moving dc left floor) h = Unit {0}

-- a read that heard this is answered so
abbrev pub EndsTimely : Outcome → HeardNow → Type 0
EndsTimely (outcome.Wrote commit stamp) h = Unit {0}
EndsTimely (outcome.Read time answer) h = IsTimely h time
EndsTimely outcome.Collected h = Unit {0}
EndsTimely (outcome.Moved dc floor) h = Unit {0}

-- the session's operation of this number has heard this
pub record Heard (a : SessionState) (number : ℕ) (h : HeardNow) : Type 0 where
  pub count : number ≤ a.count
  pub current : number ≡ a.count → HasHeard a.current h
  -- its last outcome was taken
  pub taken : a.untaken ≡ None

-- after a step it still has, or it ends so
pub record StillHeard (a b : SessionState) (number : ℕ) (h : HeardNow) : Type 0 where
  pub kept : Heard (session_taken b) number h
  pub ended : (f : Finished) → b.untaken ≡ Some f → f.number ≡ number → EndsTimely f.outcome h

-- ## A step that ends nothing, and one that ends the operation

tells_none : {o : Option Finished} {f : Finished} → o ≡ None → o ≡ Some f → ⊥
tells_none none e = absurd (cc)

still_calm : (n : ℕ) (a : SessionState) (number : ℕ) (h : HeardNow) → Heard a number h → StillHeard a (calm n a).state number h
still_calm n a number h k =
    record {
      kept = record { count = k.count; current = k.current; taken = refl };
      ended = λ f m q. absurd (tells_none k.taken m);
    }

-- it stays open in this way
still_open : (n : ℕ) (a : SessionState) (o : Open) (number : ℕ) (h : HeardNow) → a.untaken ≡ None → number ≤ a.count → (number ≡ a.count → HasHeard o h)
    → StillHeard a (record a { clock = n; current = o }) number h
still_open n a o number h none le k =
    record {
      kept = record { count = le; current = k; taken = refl };
      ended = λ f m q. absurd (tells_none none m);
    }

still_ended : (n : ℕ) (a : SessionState) (home floor : ℕ) (deps : List WriterValue) (o : Outcome) (number : ℕ) (h : HeardNow) → number ≤ a.count
    → (number ≡ a.count → EndsTimely o h) → StillHeard a (ended n (record a { home = home }) floor deps o).state number h
still_ended n a home floor deps o number h le k =
    record {
      kept = record { count = le; current = λ q. tt; taken = refl };
      ended =
          λ f m q.
          let same : record { number = a.count; outcome = o } ≡ f = cc in
          subst (λ (z : Finished). EndsTimely z.outcome h) same (k (sym q ∙ ap (λ (z : Finished). z.number) (sym same)));
    }

-- ## PartNow

-- the effective time is timely for all that was heard
timely : (floor : ℕ) (hs : List HeardNow) (h : HeardNow) → Contains hs h → IsTimely h (effective_time floor hs)
timely floor hs h m r i =
    effective_above_each floor hs r (contains_flat (λ (z : HeardNow). z.rows) hs h r m i)

second_still : (nodes : List ℕ) (me n : ℕ) (a : SessionState) (read : Read) (time : ℕ) (hs : List HeardNow) (number : ℕ) (h : HeardNow)
    → a.untaken ≡ None → number ≤ a.count
    → (number ≡ a.count → IsTimely h time) → StillHeard a (second_if nodes me n a read time hs).state number h
second_still [] me n a read time hs number h none le k = still_ended n a a.home _ _ (outcome.Read time _) number h le k
second_still (s ∷ ss) me n a read time hs number h none le k = still_open n a (SecondRound read time hs []) number h none le k

heard_still : (top : TopologyValue) (me n : ℕ) (a : SessionState) (read : Read) (hs : List HeardNow) (number : ℕ) (h : HeardNow) → a.untaken ≡ None
    → number ≤ a.count → (number ≡ a.count → Contains hs h) → StillHeard a (heard_now top me n a read hs).state number h
heard_still top me n a read hs number h none le k = by (all_heard (asked_nodes top a read) hs)
  where
    by : (b : Bool) → StillHeard a (heard_if b top me n a read hs).state number h
    by true =
        second_still (late_nodes (asked_nodes top a read) (effective_time a.floor hs) hs) me n a read (effective_time a.floor hs) hs number h none le
        (λ q. timely a.floor hs h (k q))
    by false = still_open n a (FirstRound read hs) number h none le k

-- what is kept now has been heard
pub part_now_heard : (top : TopologyValue) (me n : ℕ) (a : SessionState) (from number : ℕ) (rows : List RowNow) (read : Read) (hs : List HeardNow)
    → a.untaken ≡ None → a.count ≡ number
    → a.current ≡ FirstRound read hs → is_missing (asked_nodes top a read) hs from ≡ true
    → StillHeard a (heard top me n a from (PartNow number rows)).state number (record { from = from; rows = rows })
part_now_heard top me n a from number rows read hs none count current missing =
    let h : HeardNow = record { from = from; rows = rows } in
    let test : ((number == a.count) && is_missing (asked_nodes top a read) hs from) ≡ true =
    ap (λ b. b && is_missing (asked_nodes top a read) hs from) (eq-eqb number a.count (sym count)) ∙ missing in
    subst (λ o. StillHeard a (part_now_in o top me n a from number rows).state number h) (sym current)
    (subst (λ b. StillHeard a (part_now_if b top me n a read hs from rows).state number h) (sym test)
    (heard_still top me n a read (hs ++ h ∷ []) number h none (omega arith) (λ q. Contains-push hs h)))

-- ## Events

-- whatever comes to the session
pub message_still : (top : TopologyValue) (me n : ℕ) (a : SessionState) (from : ℕ) (b : Body) (number : ℕ) (h : HeardNow) → Heard a number h
    → StillHeard a (heard top me n a from b).state number h
message_still top me n a from b number h k =
    heard_cases top me n a from b (λ st. StillHeard a st.state number h)
    (record {
      still = λ ignored. still_calm n a number h k;
      wrote = λ coordinator t commit stamp e. still_ended n a a.home _ _ (outcome.Wrote commit stamp) number h k.count (λ q. tt);
      kept = λ read hs rows e some. still_open n a (FirstRound read (with_rows_now hs from rows)) number h k.taken k.count (λ q. in_first read hs rows e q);
      second =
          λ read hs rows e all s ss o. still_open n a (SecondRound read _ _ []) number h k.taken k.count (λ q. timely a.floor _ h (in_first read hs rows e q));
      ends = λ read hs rows e all o. still_ended n a a.home _ _ (outcome.Read _ _) number h k.count (λ q. timely a.floor _ h (in_first read hs rows e q));
      kept_at = λ read time first hs rows e some. still_open n a (SecondRound read time first _) number h k.taken k.count (λ q. open_so e.current q);
      ends_at = λ read time first hs rows e all. still_ended n a a.home _ _ (outcome.Read time _) number h k.count (λ q. open_so e.current q);
      gives_up = λ read time first hs e. still_ended n a a.home _ _ outcome.Collected number h k.count (λ q. tt);
      counted = λ dc left floor dependency commit e u us none. still_open n a (Moving dc _ _) number h k.taken k.count (λ q. tt);
      arrives = λ dc left floor dependency commit e none. still_ended n a dc _ _ (outcome.Moved dc _) number h k.count (λ q. tt);
    })
  where
    open_so : {o : Open} → a.current ≡ o → number ≡ a.count → HasHeard o h
    open_so is q = subst (λ z. HasHeard z h) is (k.current q)

    in_first : (read : Read) (hs : List HeardNow) (rows : List RowNow) → FirstAnswer top a from b read hs rows → number ≡ a.count → Contains (with_rows_now hs from rows) h
    in_first read hs rows e q = Contains-append_left hs (record { from = from; rows = rows } ∷ []) h (open_so {o = FirstRound read hs} e.current q)

-- what the session submits is its next operation, which may end at once
still_next : (a b : SessionState) (number : ℕ) (h : HeardNow) → number ≤ a.count → b.count ≡ a.count + 1 → ((f : Finished) → b.untaken ≡ Some f → f.number ≡ a.count + 1)
    → StillHeard a b number h
still_next a b number h le count ends =
    record {
      kept = record { count = omega arith; current = λ q. absurd (omega arith); taken = refl };
      ended = λ f m q. let own = ends f m in absurd (omega arith);
    }

pub begun_still : (top : TopologyValue) (me n : ℕ) (a : SessionState) (o : Op) (number : ℕ) (h : HeardNow) → Heard a number h
    → StillHeard a (begun top me n a o).state number h
begun_still top me n a o number h k = let g = begins top me n a o in still_next a (begun top me n a o).state number h k.count g.count g.number
