-- What a world promises of all that happened to it.
use Rattle.std.specs.Prelude.{◌≡◌, ℕ, List, ◌++◌}
use Rattle.column_family.specs.History.{History}
use Rattle.world.specs.declared.run_event.RunEvent.{RunEvent}
use Rattle.world.specs.Histories.{IsHistory}
use Rattle.world.specs.Causes.{PastsAreDecided}
use Rattle.world.specs.Collected.{CollectedIsBelowHorizon}
use Rattle.world.specs.Entries.{TellsDecided, StampsAgree, WritesAreTold}
use Rattle.world.specs.Fresh.{FirstRoundsAreWhole}
use Rattle.world.specs.Promises.{EntriesAreOfSubmissions, LaterCommitsAreAbove, OutcomesAreListed, ReadsShowOneTable, AnswersStay, ReadsShowTheirPast, MovesBringTheirPast, ReadsAreFresh, StampsFollowCauses, TimesNeverFall, HomesAreOfMoves, OperationsEndOnce, HistoriesGrow}
use Rattle.world.specs.Quiet.{IsQuiet}
use Rattle.world.specs.Settled.{Settled}
use Rattle.world.specs.World.{WorldValue, run_of}
use Rattle.present.specs.AtRest.{NoneIsGivenUp}

-- What `World` promises of its transcript, of its histories and of quiet holds of these events; and no read was given
-- up.
pub record KeepsPromises (v : WorldValue) : Type 0 where
  -- each read is answered with the meaning of its request on one table: its home's history at its effective time
  pub one_table : ReadsShowOneTable v.top (run_of v)
  -- now and whenever the world was looked at before
  pub stays : (before after : List RunEvent) → v.events ≡ before ++ after → AnswersStay v.top before after
  -- that table holds each write before the read, and nothing older than the asked shards had applied
  pub past : ReadsShowTheirPast v.top (run_of v)
  pub fresh : ReadsAreFresh v.top (run_of v)
  -- each write before a move is committed in the new home by the floor that the move told
  pub arrived : MovesBringTheirPast v.top (run_of v)
  pub whole : FirstRoundsAreWhole v.top (run_of v)
  -- what is committed there later has a greater commit time
  pub above : (before after : List RunEvent) → v.events ≡ before ++ after → LaterCommitsAreAbove v.top before after
  -- no read is given up; were one, then only below the horizon of a shard that it asked
  pub none : NoneIsGivenUp (run_of v)
  pub given_up : CollectedIsBelowHorizon v.top (run_of v)
  -- each entry is of a submitted operation, each operation ends once, as its session tells it
  pub entries : EntriesAreOfSubmissions (run_of v)
  pub outcomes : OutcomesAreListed v.top (run_of v)
  pub once : OperationsEndOnce (run_of v)
  -- each completed write stands in the history of its home; the times of a session never fall while it stays in one
  -- home, and its homes are those of its moves
  pub told : WritesAreTold v.top (run_of v)
  pub times : TimesNeverFall (run_of v)
  pub homes : HomesAreOfMoves v.top (run_of v)
  -- a history has an entry for each transaction that is decided in its data centre, and no other; it only grew
  pub tells : (dc : ℕ) (h : History) → IsHistory v.top (run_of v) dc h → TellsDecided v.top (run_of v) dc h
  pub grows : (before after : List RunEvent) → v.events ≡ before ++ after → HistoriesGrow v.top before after
  -- a transaction has one stamp everywhere, its own; stamps follow causal order, as do commit times within a data
  -- centre
  pub stamps : StampsAgree v.top (run_of v)
  pub causes : StampsFollowCauses v.top (run_of v)
  pub pasts : PastsAreDecided v.top (run_of v)
  -- where all that was sent is handled, every operation has its outcome, every write is committed everywhere, and all
  -- tables are equal
  pub quiet : IsQuiet (run_of v) → Settled v.top (run_of v)
