-- What is promised of every run holds of each run whose journals are those of seats.
use Rattle.std.proofs.Common.{◌≡◌, ℕ, ◌<◌, ◌++◌, true, List, refl, Result, Ok, Err, sym, ap, subst, arith}
use Rattle.std.specs.Prelude.{if◌then◌else◌, IfOk}
use Rattle.std.proofs.lemmas.Bool.Decides.{nat_tests}
use Rattle.logical_time.specs.declared.fault.Fault.{Fault}
use Rattle.column_family.specs.History.{History}
use Rattle.messages.specs.Topology.{TopologyValue, is_shard, node_count}
use Rattle.messages.specs.Actors.{OfShard, OfSession}
use Rattle.messages.specs.Shard.{ShardState}
use Rattle.actors.specs.Seats.{SeatValue}
use Rattle.world.specs.declared.run_event.RunEvent.{RunEvent}
use Rattle.world.specs.Run.{run}
use Rattle.world.specs.Causes.{PastsAreDecided}
use Rattle.world.specs.Collected.{CollectedIsBelowHorizon}
use Rattle.world.specs.Entries.{TellsDecided, StampsAgree, WritesAreTold}
use Rattle.world.specs.Fresh.{FirstRoundsAreWhole}
use Rattle.world.specs.Promises.{EntriesAreOfSubmissions, OutcomesAreListed, ReadsShowOneTable, AnswersStay, LaterCommitsAreAbove, HistoriesGrow, ReadsShowTheirPast, MovesBringTheirPast, ReadsAreFresh, StampsFollowCauses, TimesNeverFall, HomesAreOfMoves, OperationsEndOnce}
use Rattle.world.specs.Histories.{IsHistory}
use Rattle.world.specs.Journals.{held_in, IsRunOf}
use Rattle.world.proofs.promised.Promised as promised
use Rattle.threaded.specs.OneRun.{journal_of, AreSeatsOf}
use Rattle.threaded.specs.Concluded.{InEachRun, InEachCut, AreConcluded}
use Rattle.threaded.specs.Asking.{AreReplays, asked_of}
use Rattle.threaded.proofs.Looked.{some_shards}
use Rattle.threaded.proofs.Asked.{asked_is_history}
use Rattle.threaded.proofs.Whole.{apart_here, leads}

module _ (top : TopologyValue) (seats : List SeatValue) (c : AreConcluded top seats) where
  -- a world with these events is of the topology
  is_of : (events : List RunEvent) → promised.IsOf (record { top = top; events = events })
  is_of events = record { sound = c.are.sound; some = some_shards top c.are.sound }

  pub one_table : InEachRun top seats (ReadsShowOneTable top)
  one_table events is = promised.one_table (record { top = top; events = events }) (is_of events)

  pub past : InEachRun top seats (ReadsShowTheirPast top)
  past events is = promised.past (record { top = top; events = events }) (is_of events)

  pub arrived : InEachRun top seats (MovesBringTheirPast top)
  arrived events is = promised.arrived (record { top = top; events = events }) (is_of events)

  pub fresh : InEachRun top seats (ReadsAreFresh top)
  fresh events is = promised.fresh (record { top = top; events = events }) (is_of events)

  pub whole : InEachRun top seats (FirstRoundsAreWhole top)
  whole events is = promised.whole (record { top = top; events = events }) (is_of events)

  pub given_up : InEachRun top seats (CollectedIsBelowHorizon top)
  given_up events is = promised.given_up (record { top = top; events = events }) (is_of events)

  pub entries : InEachRun top seats EntriesAreOfSubmissions
  entries events is = promised.entries (record { top = top; events = events }) (is_of events)

  pub outcomes : InEachRun top seats (OutcomesAreListed top)
  outcomes events is = promised.outcomes (record { top = top; events = events }) (is_of events)

  pub told : InEachRun top seats (WritesAreTold top)
  told events is = promised.told (record { top = top; events = events }) (is_of events)

  pub times : InEachRun top seats TimesNeverFall
  times events is = promised.times (record { top = top; events = events }) (is_of events)

  pub homes : InEachRun top seats (HomesAreOfMoves top)
  homes events is = promised.homes (record { top = top; events = events }) (is_of events)

  pub once : InEachRun top seats OperationsEndOnce
  once events is = promised.once (record { top = top; events = events }) (is_of events)

  pub stays : InEachCut top seats (AnswersStay top)
  stays before after is = promised.stays (record { top = top; events = before ++ after }) (is_of (before ++ after)) before after refl

  pub above : InEachCut top seats (LaterCommitsAreAbove top)
  above before after is = promised.above (record { top = top; events = before ++ after }) (is_of (before ++ after)) before after refl

  pub grows : InEachCut top seats (HistoriesGrow top)
  grows before after is = promised.grows (record { top = top; events = before ++ after }) (is_of (before ++ after)) before after refl

  pub stamps : InEachRun top seats (StampsAgree top)
  stamps events is = promised.stamps (record { top = top; events = events }) (is_of events)

  pub causes : InEachRun top seats (StampsFollowCauses top)
  causes events is = promised.causes (record { top = top; events = events }) (is_of events)

  pub pasts : InEachRun top seats (PastsAreDecided top)
  pasts events is = promised.pasts (record { top = top; events = events }) (is_of events)

  -- ## Histories

  -- the shards of each run are where the journals of their seats lead
  pub are_replays : (events : List RunEvent) → IsRunOf top (journal_of seats) events → AreReplays top seats (run top events).shards
  are_replays events is = λ node shard. (
    apart_here top seats c.are events is node (below node shard),
    (held_in top (run top events) node, leads top seats c.are events is node (below node shard), at node shard),
  )
    where
      below : (node : ℕ) → is_shard top node ≡ true → node < node_count top
      below node shard = grind (arith, nat_tests)

      at : (node : ℕ) → is_shard top node ≡ true → (held_in top (run top events) node).state ≡ OfShard ((run top events).shards node)
      at node shard = ap (λ b. if b then OfShard ((run top events).shards node) else OfSession ((run top events).sessions node)) shard

  -- what the seats of shards tell is the history of each run
  pub listed : (dc : ℕ) (h : History) → dc < top.dcs → ((states : ℕ → ShardState) → AreSeatsOf top seats → AreReplays top seats states → h ≡ asked_of top states seats dc)
      → InEachRun top seats (λ w. IsHistory top w dc h)
  listed dc h lt asked events is =
      subst (λ g. IsHistory top (run top events) dc g) (sym (asked (run top events).shards c.are (are_replays events is))) (asked_is_history top seats c.are.sound events is dc lt)

  pub tells : (dc : ℕ) (h : History) → dc < top.dcs → ((states : ℕ → ShardState) → AreSeatsOf top seats → AreReplays top seats states → h ≡ asked_of top states seats dc)
      → InEachRun top seats (λ w. TellsDecided top w dc h)
  tells dc h lt asked events is = promised.tells (record { top = top; events = events }) (is_of events) dc h (listed dc h lt asked events is)

  -- so it is of what is answered, if it isn't a refusal
  pub listed_ok : (dc : ℕ) (r : Result History Fault) → dc < top.dcs
      → ((states : ℕ → ShardState) → AreSeatsOf top seats → AreReplays top seats states → IfOk r (λ h. h ≡ asked_of top states seats dc))
      → IfOk r (λ h. InEachRun top seats (λ w. IsHistory top w dc h))
  listed_ok dc (Ok h) lt asked = listed dc h lt asked
  listed_ok dc (Err e) lt asked = tt

  pub tells_ok : (dc : ℕ) (r : Result History Fault) → dc < top.dcs
      → ((states : ℕ → ShardState) → AreSeatsOf top seats → AreReplays top seats states → IfOk r (λ h. h ≡ asked_of top states seats dc))
      → IfOk r (λ h. InEachRun top seats (λ w. TellsDecided top w dc h))
  tells_ok dc (Ok h) lt asked = tells dc h lt asked
  tells_ok dc (Err e) lt asked = tt
