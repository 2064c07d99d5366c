-- An envelope that a session heeds does more than move the clock.
use Rattle.std.proofs.Common.{◌≡◌, ◌∙◌, ℕ, max, Bool, true, false, ◌||◌, ap, refl, sym, subst, List, [], ◌∷◌, ◌++◌}
use Rattle.std.specs.Prelude.{◌==◌, ◌&&◌, not, if◌then◌else◌}
use Rattle.logical_time.specs.Stamps.{StampValue, TxnValue, WriterValue}
use Rattle.slice.specs.declared.read.Read.{Read}
use Rattle.messages.specs.declared.rows_now.RowNow.{RowNow}
use Rattle.messages.specs.declared.rows_at.AtTime.{AtTime}
use Rattle.messages.specs.declared.rows_at.AtTime.TheVariants as at
use Rattle.messages.specs.declared.body.Body.{Body}
use Rattle.messages.specs.declared.body.Body.TheVariants as body
use Rattle.messages.specs.declared.envelope.Envelope.{Envelope}
use Rattle.messages.specs.Topology.{TopologyValue}
use Rattle.messages.specs.Words.{is_same_txn}
use Rattle.messages.specs.Session.{SessionState, SessionStep, HeardNow, HeardAt, calm}
use Rattle.messages.specs.Session as session
use Rattle.messages.specs.Rounds as rounds
use Rattle.messages.specs.SessionEvents as machine
use Rattle.client.specs.declared.kept.SessionKept.{SessionKept}
use Rattle.client.specs.declared.current.Current.{Current}
use Rattle.client.specs.declared.current.Current.TheVariants as now
use Rattle.client.specs.Current.{open_of}
use Rattle.client.specs.Ignored.{IsIgnored, heeds_done, heeds_now, heeds_at, heeds_ok, heeds}
use Rattle.client.specs.Represents.{FitsIn, Represents}
use Rattle.client.specs.State.{state_of}
use Rattle.client.proofs.Heard.{asked_of}
use Rattle.client.proofs.Submitted.{kept_in}

-- a step only moves the clock to 0
abbrev Rests : SessionStep → SessionState → Type 0
Rests step a = step ≡ calm 0 a

-- then the same operation is open
open_stays : (step : SessionStep) (a : SessionState) → Rests step a → step.state.current ≡ a.current
open_stays step a e = ap (λ (s : SessionStep). s.state.current) e

longer : {X : Type 0} (xs : List X) (x : X) → xs ++ x ∷ [] ≡ xs → ⊥
longer [] x e = cc
longer (y ∷ ys) x e = longer ys x (cc)

-- ## Done

done_if_rests : (b : Bool) (a : SessionState) (coordinator : ℕ) (t : TxnValue) (commit : ℕ) (stamp : StampValue) → a.current ≡ session.Writing coordinator
    → Rests (machine.done_if b 0 a coordinator t commit stamp) a → b ≡ false
done_if_rests false a coordinator t commit stamp writing e = refl
done_if_rests true a coordinator t commit stamp writing e =
    let idle : session.Idle ≡ a.current = open_stays (machine.done_if true 0 a coordinator t commit stamp) a e in
    absurd (cc)

done_rests : (c : Current) (k : SessionKept) (t : TxnValue) (commit : ℕ) (stamp : StampValue) → c ≡ k.current
    → Rests (machine.done_in (open_of c) k.node 0 (state_of k) t commit stamp) (state_of k) → heeds_done c k t ≡ false
done_rests now.Idle k t commit stamp same e = refl
done_rests (now.Write coordinator) k t commit stamp same e =
    done_if_rests (is_same_txn t (record { session = k.node; number = k.count })) (state_of k) coordinator t commit stamp (ap open_of (sym same)) e
done_rests (now.First f) k t commit stamp same e = refl
done_rests (now.Second s) k t commit stamp same e = refl
done_rests (now.Move home m) k t commit stamp same e = refl

-- ## PartNow

second_rests : (nodes : List ℕ) (me : ℕ) (a : SessionState) (read : Read) (time : ℕ) (heard before : List HeardNow) → a.current ≡ session.FirstRound read before
    → Rests (machine.second_if nodes me 0 a read time heard) a → ⊥
second_rests [] me a read time heard before first e =
    let idle : session.Idle ≡ a.current = open_stays (machine.second_if [] me 0 a read time heard) a e in
    cc
second_rests (s ∷ ss) me a read time heard before first e =
    let second : session.SecondRound read time heard [] ≡ a.current = open_stays (machine.second_if (s ∷ ss) me 0 a read time heard) a e in
    cc

heard_rests : (b : Bool) (top : TopologyValue) (me : ℕ) (a : SessionState) (read : Read) (before : List HeardNow) (h : HeardNow) → a.current ≡ session.FirstRound read before
    → Rests (machine.heard_if b top me 0 a read (before ++ h ∷ [])) a → ⊥
heard_rests true top me a read before h first e =
    let heard = before ++ h ∷ [] in
    let time : ℕ = rounds.effective_time a.floor heard in
    second_rests (rounds.late_nodes (rounds.asked_nodes top a read) time heard) me a read time heard before first e
heard_rests false top me a read before h first e =
    let more : session.FirstRound read (before ++ h ∷ []) ≡ a.current = open_stays (machine.heard_if false top me 0 a read (before ++ h ∷ [])) a e in
    longer before h (cc)

now_if_rests : (b : Bool) (top : TopologyValue) (me : ℕ) (a : SessionState) (read : Read) (before : List HeardNow) (from : ℕ) (rows : List RowNow)
    → a.current ≡ session.FirstRound read before → Rests (machine.part_now_if b top me 0 a read before from rows) a → b ≡ false
now_if_rests false top me a read before from rows first e = refl
now_if_rests true top me a read before from rows first e =
    let h : HeardNow = record { from = from; rows = rows } in
    absurd (heard_rests (rounds.all_heard (rounds.asked_nodes top a read) (before ++ h ∷ [])) top me a read before h first e)

now_rests : (c : Current) (k : SessionKept) (homes : List ℕ) (from number : ℕ) (rows : List RowNow) → c ≡ k.current → FitsIn k c
    → Rests (machine.part_now_in (open_of c) (kept_in k homes) k.node 0 (state_of k) from number rows) (state_of k) → heeds_now c k from number ≡ false
now_rests now.Idle k homes from number rows same fits e = refl
now_rests (now.Write coordinator) k homes from number rows same fits e = refl
now_rests (now.Second s) k homes from number rows same fits e = refl
now_rests (now.Move home m) k homes from number rows same fits e = refl
now_rests (now.First f) k homes from number rows same fits e =
    subst (λ nodes. ((number == k.count) && rounds.is_missing nodes f.heard from) ≡ false) (sym fits.1)
    (now_if_rests ((number == k.count) && rounds.is_missing (asked_of k f.read) f.heard from) (kept_in k homes) k.node (state_of k) f.read f.heard from rows
    (ap open_of (sym same)) e)

-- ## PartAt

heard_at_rests : (b : Bool) (a : SessionState) (read : Read) (time : ℕ) (first : List HeardNow) (before : List HeardAt) (h : HeardAt)
    → a.current ≡ session.SecondRound read time first before → Rests (machine.heard_at_if b 0 a read time first (before ++ h ∷ [])) a → ⊥
heard_at_rests true a read time first before h second e =
    let idle : session.Idle ≡ a.current = open_stays (machine.heard_at_if true 0 a read time first (before ++ h ∷ [])) a e in
    cc
heard_at_rests false a read time first before h second e =
    let more : session.SecondRound read time first (before ++ h ∷ []) ≡ a.current = open_stays (machine.heard_at_if false 0 a read time first (before ++ h ∷ [])) a e in
    longer before h (cc)

taken_rests : (answer : AtTime) (top : TopologyValue) (a : SessionState) (read : Read) (time : ℕ) (first : List HeardNow) (before : List HeardAt) (from : ℕ)
    → a.current ≡ session.SecondRound read time first before → Rests (machine.taken_at answer top 0 a read time first before from) a → ⊥
taken_rests at.Collected top a read time first before from second e =
    let idle : session.Idle ≡ a.current = open_stays (machine.taken_at at.Collected top 0 a read time first before from) a e in
    cc
taken_rests (at.Rows rows) top a read time first before from second e =
    let h : HeardAt = record { from = from; rows = rows } in
    heard_at_rests (rounds.all_heard_at (rounds.asked_nodes top a read) time first (before ++ h ∷ [])) a read time first before h second e

at_if_rests : (b : Bool) (top : TopologyValue) (a : SessionState) (read : Read) (time : ℕ) (first : List HeardNow) (before : List HeardAt) (from : ℕ) (answer : AtTime)
    → a.current ≡ session.SecondRound read time first before → Rests (machine.part_at_if b top 0 a read time first before from answer) a → b ≡ false
at_if_rests false top a read time first before from answer second e = refl
at_if_rests true top a read time first before from answer second e = absurd (taken_rests answer top a read time first before from second e)

at_rests : (c : Current) (k : SessionKept) (homes : List ℕ) (from number : ℕ) (answer : AtTime) → c ≡ k.current → FitsIn k c
    → Rests (machine.part_at_in (open_of c) (kept_in k homes) 0 (state_of k) from number answer) (state_of k) → heeds_at c k from number ≡ false
at_rests now.Idle k homes from number answer same fits e = refl
at_rests (now.Write coordinator) k homes from number answer same fits e = refl
at_rests (now.First f) k homes from number answer same fits e = refl
at_rests (now.Move home m) k homes from number answer same fits e = refl
at_rests (now.Second s) k homes from number answer same fits e =
    subst (λ nodes. ((number == k.count) && rounds.is_missing_at nodes s.time s.first s.heard from) ≡ false) (sym fits.1)
    (at_if_rests ((number == k.count) && rounds.is_missing_at (asked_of k s.read) s.time s.first s.heard from) (kept_in k homes) (state_of k) s.read s.time s.first s.heard from answer
    (ap open_of (sym same)) e)

-- ## DepOk

-- an answer that was counted isn't missing
none_again : (d : TxnValue) (ws : List WriterValue) → machine.is_left d (machine.left_after d ws) ≡ false
none_again d [] = refl
none_again d (w ∷ ws) = go (is_same_txn w.txn d) refl (none_again d ws)
  where
    go : (s : Bool) → is_same_txn w.txn d ≡ s → machine.is_left d (machine.left_after d ws) ≡ false
        → machine.is_left d (if not s then w ∷ machine.left_after d ws else machine.left_after d ws) ≡ false
    go true same h = h
    go false same h = ap (λ b. b || machine.is_left d (machine.left_after d ws)) same ∙ h

on_rests : (left : List WriterValue) (a : SessionState) (d : TxnValue) (dc : ℕ) (before : List WriterValue) (floor later : ℕ) → machine.left_after d before ≡ left
    → a.current ≡ session.Moving dc before floor → Rests (machine.moving_on left 0 a dc later) a → machine.is_left d before ≡ true → ⊥
on_rests [] a d dc before floor later is moving e missing =
    let idle : session.Idle ≡ a.current = open_stays (machine.moving_on [] 0 a dc later) a e in
    cc
on_rests (w ∷ ws) a d dc before floor later is moving e missing =
    let more : session.Moving dc (w ∷ ws) later ≡ a.current = open_stays (machine.moving_on (w ∷ ws) 0 a dc later) a e in
    let same : (w ∷ ws) ≡ before = cc in
    let out : machine.is_left d before ≡ false = ap (machine.is_left d) (sym (is ∙ same)) ∙ none_again d before in
    cc

both : (b c : Bool) → (b && c) ≡ true → c ≡ true
both true c e = e
both false c e = absurd (cc)

ok_if_rests : (b : Bool) (a : SessionState) (d : TxnValue) (dc : ℕ) (left : List WriterValue) (floor commit : ℕ) → a.current ≡ session.Moving dc left floor
    → (b ≡ true → machine.is_left d left ≡ true) → Rests (machine.dep_ok_if b 0 a dc left floor d commit) a → b ≡ false
ok_if_rests false a d dc left floor commit moving missing e = refl
ok_if_rests true a d dc left floor commit moving missing e =
    absurd (on_rests (machine.left_after d left) a d dc left floor (max floor commit) refl moving e (missing refl))

ok_rests : (c : Current) (k : SessionKept) (d waiter : TxnValue) (commit : ℕ) → c ≡ k.current
    → Rests (machine.dep_ok_in (open_of c) k.node 0 (state_of k) d waiter commit) (state_of k) → heeds_ok c k d waiter ≡ false
ok_rests now.Idle k d waiter commit same e = refl
ok_rests (now.Write coordinator) k d waiter commit same e = refl
ok_rests (now.First f) k d waiter commit same e = refl
ok_rests (now.Second s) k d waiter commit same e = refl
ok_rests (now.Move home m) k d waiter commit same e =
    let own = is_same_txn waiter (record { session = k.node; number = k.count }) in
    ok_if_rests (own && machine.is_left d m.left) (state_of k) d home.dc m.left m.floor commit (ap open_of (sym same)) (both own (machine.is_left d m.left)) e

-- ## Every envelope

rests : (b : Body) (k : SessionKept) (homes : List ℕ) (from : ℕ) → FitsIn k k.current
    → Rests (machine.heard (kept_in k homes) k.node 0 (state_of k) from b) (state_of k) → heeds k from b ≡ false
rests (body.Done txn commit stamp) k homes from fits e = done_rests k.current k txn commit stamp refl e
rests (body.PartNow number rows) k homes from fits e = now_rests k.current k homes from number rows refl fits e
rests (body.PartAt number time answer) k homes from fits e = at_rests k.current k homes from number answer refl fits e
rests (body.DepOk dependency waiter commit) k homes from fits e = ok_rests k.current k dependency waiter commit refl e
rests b k homes from fits e = refl

pub ignored_rests : (k : SessionKept) (e : Envelope) (top : TopologyValue) (a : SessionState) → Represents k top a → IsIgnored top k.node a e → heeds k e.from e.body ≡ false
ignored_rests k e top a r ignored =
    rests e.body k top.homes e.from r.current
    (subst (λ t. Rests (machine.heard t k.node 0 (state_of k) e.from e.body) (state_of k)) r.topology
    (subst (λ b. Rests (machine.heard top k.node 0 b e.from e.body) b) r.state (ignored 0)))
