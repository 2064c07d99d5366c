-- What a message makes of a session, case by case: only its clock moves, an answer is kept, or the operation ends. Each case
-- comes with all that was tested on the way to it.
use Rattle.std.proofs.Common.{◌≡◌, refl, sym, ap, ◌∙◌, subst, eq-eqb, ℕ, max, Bool, true, false, ◌&&◌, List, [], ◌∷◌, ◌++◌, map, eqb-true}
use Rattle.std.specs.Prelude.{◌==◌}
use Rattle.std.proofs.lemmas.Bool.{false≢true, and_parts, and_from}
use Rattle.logical_time.specs.Stamps.{StampValue, TxnValue, WriterValue}
use Rattle.slice.specs.declared.read.Read.{Read}
use Rattle.messages.specs.declared.rows_now.RowNow.{RowNow}
use Rattle.messages.specs.declared.rows_at.RowAt.{RowAt}
use Rattle.messages.specs.declared.rows_at.AtTime.{AtTime}
use Rattle.messages.specs.declared.rows_at.AtTime.TheVariants as at
use Rattle.messages.specs.declared.outcome.Outcome.{Outcome}
use Rattle.messages.specs.declared.outcome.Outcome.TheVariants as outcome
use Rattle.messages.specs.declared.body.Body.{Body}
use Rattle.messages.specs.declared.body.Body.TheVariants.{Begin, Prepare, Yes, Commit, At, NotBy, Check, Read as ReadNow, ReadAt, ReplBegin, ReplPart, Notify, PrepareRemote, DepCheck, DepOk, Done, PartNow, PartAt}
use Rattle.messages.specs.declared.envelope.Envelope.{Envelope}
use Rattle.messages.specs.Topology.{TopologyValue}
use Rattle.messages.specs.Words.{is_same_txn}
use Rattle.messages.specs.Session.{SessionState, SessionStep, Open, Idle, Writing, FirstRound, SecondRound, Moving, HeardNow, HeardAt, calm, ended, moved, is_idle}
use Rattle.messages.specs.Rounds.{asked_nodes, is_missing, all_heard, effective_time, late_nodes, is_missing_at, all_heard_at, rows_taken}
use Rattle.messages.specs.SessionEvents.{answered, given_up, written, done_if, done_in, read_at_of, second_if, heard_if, heard_now, part_now_if, part_now_in, heard_at_if, taken_at, part_at_if, part_at_in, left_after, is_left, moving_on, dep_ok_if, dep_ok_in, heard}
use Rattle.messages.specs.Actors.{home_after}
use Rattle.world.proofs.lists.Members.{same_txn, same_txn_self}
use Rattle.world.proofs.under_way.Underway.{FirstHas, IsNotLeft}

-- ## What comes

-- the message tells the end of the open write
pub record WriteAnswer (me : ℕ) (a : SessionState) (m : Body) (coordinator : ℕ) (t : TxnValue) (commit : ℕ) (stamp : StampValue) : Type 0 where
  pub current : a.current ≡ Writing coordinator
  pub body : m ≡ Done t commit stamp
  pub own : t ≡ record { session = me; number = a.count }

-- the message is the first answer of this shard to the open read in its first round
pub record FirstAnswer (top : TopologyValue) (a : SessionState) (from : ℕ) (m : Body) (read : Read) (hs : List HeardNow) (rows : List RowNow) : Type 0 where
  pub current : a.current ≡ FirstRound read hs
  pub body : m ≡ PartNow a.count rows
  pub missing : is_missing (asked_nodes top a read) hs from ≡ true

-- the message is an awaited answer of the second round
pub record SecondAnswer (top : TopologyValue) (a : SessionState) (from : ℕ) (m : Body) (read : Read) (time : ℕ) (first : List HeardNow) (hs : List HeardAt) (answer : AtTime) : Type 0 where
  pub current : a.current ≡ SecondRound read time first hs
  pub bound : ℕ
  pub body : m ≡ PartAt a.count bound answer
  pub missing : is_missing_at (asked_nodes top a read) time first hs from ≡ true

-- the message is a missing answer to the open move
pub record MoveAnswer (me : ℕ) (a : SessionState) (m : Body) (dc : ℕ) (left : List WriterValue) (floor : ℕ) (dependency : TxnValue) (commit : ℕ) : Type 0 where
  pub current : a.current ≡ Moving dc left floor
  pub body : m ≡ DepOk dependency (record { session = me; number = a.count }) commit
  pub missing : is_left dependency left ≡ true

-- the open read, if it is in its second round, awaits no answer of this shard
abbrev pub AwaitsNone : TopologyValue → SessionState → Open → ℕ → Type 0
AwaitsNone top a (SecondRound read time first heard) node = is_missing_at (asked_nodes top a read) time first heard node ≡ false
AwaitsNone top a Idle node = Unit {0}
AwaitsNone top a (Writing coordinator) node = Unit {0}
AwaitsNone top a (FirstRound read heard) node = Unit {0}
AwaitsNone top a (Moving dc left floor) node = Unit {0}

-- no write of this number is open
abbrev pub IsNotWritten : ℕ → SessionState → Open → TxnValue → Type 0
IsNotWritten me a (Writing coordinator) t = t ≡ record { session = me; number = a.count } → ⊥
IsNotWritten me a Idle t = Unit {0}
IsNotWritten me a (FirstRound read heard) t = Unit {0}
IsNotWritten me a (SecondRound read time first heard) t = Unit {0}
IsNotWritten me a (Moving dc left floor) t = Unit {0}

-- the message is none that the session waits for
abbrev pub Ignored : TopologyValue → ℕ → SessionState → ℕ → Body → Type 0
Ignored top me a from (Done t commit stamp) = IsNotWritten me a a.current t
Ignored top me a from (PartNow number rows) = number ≡ a.count → FirstHas top a a.current from
Ignored top me a from (PartAt number bound answer) = number ≡ a.count → AwaitsNone top a a.current from
Ignored top me a from (DepOk dependency waiter commit) = waiter ≡ record { session = me; number = a.count } → IsNotLeft a.current dependency
Ignored top me a from other = Unit {0}

-- what was heard, and these rows of this shard
abbrev pub with_rows_now : List HeardNow → ℕ → List RowNow → List HeardNow
with_rows_now hs from rows = hs ++ record { from = from; rows = rows } ∷ []

abbrev pub with_rows_at : List HeardAt → ℕ → List RowAt → List HeardAt
with_rows_at hs from rows = hs ++ record { from = from; rows = rows } ∷ []

-- ## What is made of it

-- the operation stays open, as this, and these are sent
abbrev pub opened_as : ℕ → SessionState → Open → List Envelope → SessionStep
opened_as n a o sends = record { state = record a { clock = n; current = o }; sends = sends }

-- What holds of each thing that a message may make of a session holds of what it makes.
pub record HeardCases (top : TopologyValue) (me n : ℕ) (a : SessionState) (from : ℕ) (m : Body) (P : SessionStep → Type 0) : Type 0 where
  pub still : Ignored top me a from m → P (calm n a)
  pub wrote : (coordinator : ℕ) (t : TxnValue) (commit : ℕ) (stamp : StampValue) → WriteAnswer me a m coordinator t commit stamp
      → P (written n a coordinator t commit stamp)
  -- a first answer is kept, and others are awaited
  pub kept : (read : Read) (hs : List HeardNow) (rows : List RowNow) → FirstAnswer top a from m read hs rows
      → all_heard (asked_nodes top a read) (with_rows_now hs from rows) ≡ false
      → P (opened_as n a (FirstRound read (with_rows_now hs from rows)) [])
  -- it was the last: the second round begins
  pub second : (read : Read) (hs : List HeardNow) (rows : List RowNow) → FirstAnswer top a from m read hs rows
      → all_heard (asked_nodes top a read) (with_rows_now hs from rows) ≡ true
      → (s : ℕ) (ss : List ℕ) → late_nodes (asked_nodes top a read) (effective_time a.floor (with_rows_now hs from rows)) (with_rows_now hs from rows) ≡ s ∷ ss
      → P (opened_as n a (SecondRound read (effective_time a.floor (with_rows_now hs from rows)) (with_rows_now hs from rows) [])
      (map (read_at_of me n a read (effective_time a.floor (with_rows_now hs from rows)) (with_rows_now hs from rows)) (s ∷ ss)))
  -- or the read completes
  pub ends : (read : Read) (hs : List HeardNow) (rows : List RowNow) → FirstAnswer top a from m read hs rows
      → all_heard (asked_nodes top a read) (with_rows_now hs from rows) ≡ true
      → late_nodes (asked_nodes top a read) (effective_time a.floor (with_rows_now hs from rows)) (with_rows_now hs from rows) ≡ []
      → P (answered n a read (effective_time a.floor (with_rows_now hs from rows))
      (rows_taken (effective_time a.floor (with_rows_now hs from rows)) (with_rows_now hs from rows) []))
  -- an answer of the second round is kept, and others are awaited
  pub kept_at : (read : Read) (time : ℕ) (first : List HeardNow) (hs : List HeardAt) (rows : List RowAt)
      → SecondAnswer top a from m read time first hs (at.Rows rows) → all_heard_at (asked_nodes top a read) time first (with_rows_at hs from rows) ≡ false
      → P (opened_as n a (SecondRound read time first (with_rows_at hs from rows)) [])
  -- or the read completes
  pub ends_at : (read : Read) (time : ℕ) (first : List HeardNow) (hs : List HeardAt) (rows : List RowAt)
      → SecondAnswer top a from m read time first hs (at.Rows rows) → all_heard_at (asked_nodes top a read) time first (with_rows_at hs from rows) ≡ true
      → P (answered n a read time (rows_taken time first (with_rows_at hs from rows)))
  pub gives_up : (read : Read) (time : ℕ) (first : List HeardNow) (hs : List HeardAt) → SecondAnswer top a from m read time first hs at.Collected
      → P (given_up n a)
  -- an answer to a move is counted, and others are missing
  pub counted : (dc : ℕ) (left : List WriterValue) (floor : ℕ) (dependency : TxnValue) (commit : ℕ) → MoveAnswer me a m dc left floor dependency commit
      → (u : WriterValue) (us : List WriterValue) → left_after dependency left ≡ u ∷ us
      → P (opened_as n a (Moving dc (left_after dependency left) (max floor commit)) [])
  -- or the move ends
  pub arrives : (dc : ℕ) (left : List WriterValue) (floor : ℕ) (dependency : TxnValue) (commit : ℕ) → MoveAnswer me a m dc left floor dependency commit
      → left_after dependency left ≡ [] → P (moved n a dc (max floor commit))

module _ (top : TopologyValue) (me n : ℕ) (a : SessionState) (from : ℕ) (m : Body) (P : SessionStep → Type 0) (c : HeardCases top me n a from m P) where
  because : {z : Body} → m ≡ z → Ignored top me a from z → Ignored top me a from m
  because is k = subst (Ignored top me a from) (sym is) k

  -- one of two tests fails, so if the first holds the second doesn't
  if_first : (number : ℕ) (b : Bool) → ((number == a.count) && b) ≡ false → number ≡ a.count → b ≡ false
  if_first number true e q = absurd (false≢true (sym e ∙ and_from (number == a.count) true (eq-eqb number a.count q) refl))
  if_first number false e q = refl

  done_cases : (o : Open) → a.current ≡ o → (t : TxnValue) (commit : ℕ) (stamp : StampValue) → m ≡ Done t commit stamp → P (done_in o me n a t commit stamp)
  done_cases (Writing coordinator) is t commit stamp body = by (is_same_txn t (record { session = me; number = a.count })) refl
    where
      by : (b : Bool) → is_same_txn t (record { session = me; number = a.count }) ≡ b → P (done_if b n a coordinator t commit stamp)
      by true e =
          c.wrote coordinator t commit stamp
          (record { current = is; body = body; own = same_txn t (record { session = me; number = a.count }) e })
      by false e =
          c.still
          (because body (subst (λ o. IsNotWritten me a o t) (sym is)
          (λ q. false≢true (sym e ∙ ap (λ z. is_same_txn z (record { session = me; number = a.count })) q ∙ same_txn_self (record { session = me; number = a.count })))))
  done_cases Idle is t commit stamp body = c.still (because body (subst (λ o. IsNotWritten me a o t) (sym is) tt))
  done_cases (FirstRound read hs) is t commit stamp body = c.still (because body (subst (λ o. IsNotWritten me a o t) (sym is) tt))
  done_cases (SecondRound read time first hs) is t commit stamp body = c.still (because body (subst (λ o. IsNotWritten me a o t) (sym is) tt))
  done_cases (Moving dc left floor) is t commit stamp body = c.still (because body (subst (λ o. IsNotWritten me a o t) (sym is) tt))

  second_cases : (late : List ℕ) (read : Read) (hs : List HeardNow) (rows : List RowNow) → FirstAnswer top a from m read hs rows
      → all_heard (asked_nodes top a read) (with_rows_now hs from rows) ≡ true
      → late_nodes (asked_nodes top a read) (effective_time a.floor (with_rows_now hs from rows)) (with_rows_now hs from rows) ≡ late
      → P (second_if late me n a read (effective_time a.floor (with_rows_now hs from rows)) (with_rows_now hs from rows))
  second_cases [] read hs rows k all e = c.ends read hs rows k all e
  second_cases (s ∷ ss) read hs rows k all e = c.second read hs rows k all s ss e

  first_cases : (read : Read) (hs : List HeardNow) (rows : List RowNow) → FirstAnswer top a from m read hs rows
      → P (heard_now top me n a read (with_rows_now hs from rows))
  first_cases read hs rows k = by (all_heard (asked_nodes top a read) (with_rows_now hs from rows)) refl
    where
      by : (b : Bool) → all_heard (asked_nodes top a read) (with_rows_now hs from rows) ≡ b → P (heard_if b top me n a read (with_rows_now hs from rows))
      by true all = second_cases (late_nodes (asked_nodes top a read) (effective_time a.floor (with_rows_now hs from rows)) (with_rows_now hs from rows)) read hs rows k all refl
      by false all = c.kept read hs rows k all

  part_now_cases : (o : Open) → a.current ≡ o → (number : ℕ) (rows : List RowNow) → m ≡ PartNow number rows → P (part_now_in o top me n a from number rows)
  part_now_cases (FirstRound read hs) is number rows body = by ((number == a.count) && is_missing (asked_nodes top a read) hs from) refl
    where
      by : (b : Bool) → ((number == a.count) && is_missing (asked_nodes top a read) hs from) ≡ b → P (part_now_if b top me n a read hs from rows)
      by true e =
          let p = and_parts (number == a.count) (is_missing (asked_nodes top a read) hs from) e in
          first_cases read hs rows
          (record { current = is; body = subst (λ z. m ≡ PartNow z rows) (eqb-true number a.count p.0) body; missing = p.1 })
      by false e =
          c.still (because body (λ q. subst (λ o. FirstHas top a o from) (sym is) (if_first number (is_missing (asked_nodes top a read) hs from) e q)))
  part_now_cases Idle is number rows body = c.still (because body (λ q. subst (λ o. FirstHas top a o from) (sym is) tt))
  part_now_cases (Writing coordinator) is number rows body = c.still (because body (λ q. subst (λ o. FirstHas top a o from) (sym is) tt))
  part_now_cases (SecondRound read time first hs) is number rows body = c.still (because body (λ q. subst (λ o. FirstHas top a o from) (sym is) tt))
  part_now_cases (Moving dc left floor) is number rows body = c.still (because body (λ q. subst (λ o. FirstHas top a o from) (sym is) tt))

  taken_cases : (answer : AtTime) (read : Read) (time : ℕ) (first : List HeardNow) (hs : List HeardAt)
      → SecondAnswer top a from m read time first hs answer → P (taken_at answer top n a read time first hs from)
  taken_cases at.Collected read time first hs k = c.gives_up read time first hs k
  taken_cases (at.Rows rows) read time first hs k = by (all_heard_at (asked_nodes top a read) time first (with_rows_at hs from rows)) refl
    where
      by : (b : Bool) → all_heard_at (asked_nodes top a read) time first (with_rows_at hs from rows) ≡ b
          → P (heard_at_if b n a read time first (with_rows_at hs from rows))
      by true all = c.ends_at read time first hs rows k all
      by false all = c.kept_at read time first hs rows k all

  part_at_cases : (o : Open) → a.current ≡ o → (number bound : ℕ) (answer : AtTime) → m ≡ PartAt number bound answer → P (part_at_in o top n a from number answer)
  part_at_cases (SecondRound read time first hs) is number bound answer body =
      by ((number == a.count) && is_missing_at (asked_nodes top a read) time first hs from) refl
    where
      by : (b : Bool) → ((number == a.count) && is_missing_at (asked_nodes top a read) time first hs from) ≡ b
          → P (part_at_if b top n a read time first hs from answer)
      by true e =
          let p = and_parts (number == a.count) (is_missing_at (asked_nodes top a read) time first hs from) e in
          taken_cases answer read time first hs
          (record {
            current = is;
            bound = bound;
            body = subst (λ z. m ≡ PartAt z bound answer) (eqb-true number a.count p.0) body;
            missing = p.1;
          })
      by false e =
          c.still
          (because body (λ q. subst (λ o. AwaitsNone top a o from) (sym is) (if_first number (is_missing_at (asked_nodes top a read) time first hs from) e q)))
  part_at_cases Idle is number bound answer body = c.still (because body (λ q. subst (λ o. AwaitsNone top a o from) (sym is) tt))
  part_at_cases (Writing coordinator) is number bound answer body = c.still (because body (λ q. subst (λ o. AwaitsNone top a o from) (sym is) tt))
  part_at_cases (FirstRound read hs) is number bound answer body = c.still (because body (λ q. subst (λ o. AwaitsNone top a o from) (sym is) tt))
  part_at_cases (Moving dc left floor) is number bound answer body = c.still (because body (λ q. subst (λ o. AwaitsNone top a o from) (sym is) tt))

  counted_cases : (dc : ℕ) (left : List WriterValue) (floor : ℕ) (dependency : TxnValue) (commit : ℕ) → MoveAnswer me a m dc left floor dependency commit
      → (l : List WriterValue) → left_after dependency left ≡ l → P (moving_on l n a dc (max floor commit))
  counted_cases dc left floor dependency commit k [] e = c.arrives dc left floor dependency commit k e
  counted_cases dc left floor dependency commit k (u ∷ us) e =
      subst (λ l. P (opened_as n a (Moving dc l (max floor commit)) [])) e (c.counted dc left floor dependency commit k u us e)

  dep_ok_cases : (o : Open) → a.current ≡ o → (dependency waiter : TxnValue) (commit : ℕ) → m ≡ DepOk dependency waiter commit
      → P (dep_ok_in o me n a dependency waiter commit)
  dep_ok_cases (Moving dc left floor) is dependency waiter commit body =
      by (is_same_txn waiter (record { session = me; number = a.count })) (is_left dependency left) refl refl
    where
      none_left : is_left dependency left ≡ false → P (calm n a)
      none_left e = c.still (because body (λ q. subst (λ o. IsNotLeft o dependency) (sym is) e))

      by : (s l : Bool) → is_same_txn waiter (record { session = me; number = a.count }) ≡ s → is_left dependency left ≡ l
          → P (dep_ok_if (s && l) n a dc left floor dependency commit)
      by true true p q =
          counted_cases dc left floor dependency commit
          (record {
            current = is;
            body = subst (λ t. m ≡ DepOk dependency t commit) (same_txn waiter (record { session = me; number = a.count }) p) body;
            missing = q;
          }) (left_after dependency left) refl
      by true false p q = none_left q
      by false true p q =
          c.still
          (because body
          (λ r. absurd (false≢true (sym p ∙ ap (λ z. is_same_txn z (record { session = me; number = a.count })) r ∙ same_txn_self (record { session = me; number = a.count })))))
      by false false p q = none_left q
  dep_ok_cases Idle is dependency waiter commit body = c.still (because body (λ q. subst (λ o. IsNotLeft o dependency) (sym is) tt))
  dep_ok_cases (Writing coordinator) is dependency waiter commit body = c.still (because body (λ q. subst (λ o. IsNotLeft o dependency) (sym is) tt))
  dep_ok_cases (FirstRound read hs) is dependency waiter commit body = c.still (because body (λ q. subst (λ o. IsNotLeft o dependency) (sym is) tt))
  dep_ok_cases (SecondRound read time first hs) is dependency waiter commit body = c.still (because body (λ q. subst (λ o. IsNotLeft o dependency) (sym is) tt))

pub heard_cases : (top : TopologyValue) (me n : ℕ) (a : SessionState) (from : ℕ) (m : Body) (P : SessionStep → Type 0) → HeardCases top me n a from m P
    → P (heard top me n a from m)
heard_cases top me n a from (Done t commit stamp) P c = done_cases top me n a from (Done t commit stamp) P c a.current refl t commit stamp refl
heard_cases top me n a from (PartNow number rows) P c = part_now_cases top me n a from (PartNow number rows) P c a.current refl number rows refl
heard_cases top me n a from (PartAt number time answer) P c =
    part_at_cases top me n a from (PartAt number time answer) P c a.current refl number time answer refl
heard_cases top me n a from (Begin t rows cohorts dependencies) P c = c.still tt
heard_cases top me n a from (Prepare t rows coordinator) P c = c.still tt
heard_cases top me n a from (Yes t) P c = c.still tt
heard_cases top me n a from (Commit t commit stamp) P c = c.still tt
heard_cases top me n a from (At t commit stamp) P c = c.still tt
heard_cases top me n a from (NotBy t time) P c = c.still tt
heard_cases top me n a from (Check t time) P c = c.still tt
heard_cases top me n a from (ReadNow number read) P c = c.still tt
heard_cases top me n a from (ReadAt number time read) P c = c.still tt
heard_cases top me n a from (ReplBegin cohorts t rows stamp dependencies) P c = c.still tt
heard_cases top me n a from (ReplPart t rows stamp coordinator) P c = c.still tt
heard_cases top me n a from (Notify t) P c = c.still tt
heard_cases top me n a from (PrepareRemote t) P c = c.still tt
heard_cases top me n a from (DepCheck dependency waiter) P c = c.still tt
heard_cases top me n a from (DepOk dependency waiter commit) P c =
    dep_ok_cases top me n a from (DepOk dependency waiter commit) P c a.current refl dependency waiter commit refl

-- ## The same in three kinds

-- only the clock moves, the operation is open in another way, or it ended
pub record HeardKinds (n : ℕ) (a : SessionState) (P : SessionStep → Type 0) : Type 0 where
  pub still : P (calm n a)
  pub goes_on : (o : Open) (sends : List Envelope) → is_idle a.current ≡ false → is_idle o ≡ false → P (opened_as n a o sends)
  -- then the session is where the outcome leaves it
  pub over : (floor : ℕ) (dependencies : List WriterValue) (o : Outcome) → is_idle a.current ≡ false
      → P (ended n (record a { home = home_after a.home o }) floor dependencies o)

pub heard_kinds : (top : TopologyValue) (me n : ℕ) (a : SessionState) (from : ℕ) (m : Body) (P : SessionStep → Type 0) → HeardKinds n a P
    → P (heard top me n a from m)
heard_kinds top me n a from m P c =
    heard_cases top me n a from m P
    (record {
      still = λ ignored. c.still;
      wrote = λ coordinator t commit stamp k. c.over _ _ (outcome.Wrote commit stamp) (ap is_idle k.current);
      kept = λ read hs rows k some. c.goes_on _ _ (ap is_idle k.current) refl;
      second = λ read hs rows k all s ss e. c.goes_on _ _ (ap is_idle k.current) refl;
      ends = λ read hs rows k all e. c.over _ _ (outcome.Read _ _) (ap is_idle k.current);
      kept_at = λ read time first hs rows k some. c.goes_on _ _ (ap is_idle k.current) refl;
      ends_at = λ read time first hs rows k all. c.over _ _ (outcome.Read _ _) (ap is_idle k.current);
      gives_up = λ read time first hs k. c.over _ _ outcome.Collected (ap is_idle k.current);
      counted = λ dc left floor dependency commit k u us e. c.goes_on _ _ (ap is_idle k.current) refl;
      arrives = λ dc left floor dependency commit k e. c.over _ _ (outcome.Moved dc _) (ap is_idle k.current);
    })
