-- What is promised of every run holds of the run that a world is.
use Rattle.std.proofs.Common.{◌≡◌, ◌<◌, ℕ, List, ◌++◌, true, subst}
use Rattle.column_family.specs.History.{History}
use Rattle.messages.specs.Topology.{is_topology}
use Rattle.world.specs.declared.actors.Actors.{Actors}
use Rattle.world.specs.declared.log.Log.{Log}
use Rattle.world.specs.Run.{RunEvent}
use Rattle.world.specs.Histories.{IsHistory}
use Rattle.world.specs.Holds.{Holds}
use Rattle.world.specs.World.{WorldValue, run_of}
use Rattle.world.specs.Causes.{PastsAreDecided}
use Rattle.world.specs.Collected.{CollectedIsBelowHorizon}
use Rattle.world.specs.Entries.{TellsDecided, StampsAgree, WritesAreTold}
use Rattle.world.specs.Fresh.{FirstRoundsAreWhole}
use Rattle.world.specs.Promises.{EntriesAreOfSubmissions, LaterCommitsAreAbove, OutcomesAreListed, ReadsShowOneTable, AnswersStay, ReadsShowTheirPast, MovesBringTheirPast, ReadsAreFresh, StampsFollowCauses, TimesNeverFall, HomesAreOfMoves, OperationsEndOnce, HistoriesGrow}
use Rattle.world.specs.Quiet.{IsQuiet}
use Rattle.world.specs.Settled.{Settled}
use Rattle.world.proofs.envelopes.Addresses.{stands}
use Rattle.world.proofs.causal.Homes.{homes_are_of_moves}
use Rattle.world.proofs.promised.Laws.{reads_show_one_table, answers_stay, reads_show_their_past, moves_bring_their_past, reads_are_fresh, histories_tell, histories_grow, later_commits_are_above, stamps_in_runs, stamps_follow_causes, writes_in_runs, times_never_fall, operations_end_once, entries_are_of_submissions, outcomes_are_listed, quiet_means_done}
use Rattle.world.proofs.fresh.FirstRounds.{first_rounds_are_whole}
use Rattle.world.proofs.fresh.GivenUp.{collected_in_runs}
use Rattle.world.proofs.causal.PastsDecided.{pasts_are_decided}

-- the world is of a topology, and its events make a run
pub record IsOf (v : WorldValue) : Type 0 where
  pub sound : is_topology v.top.dcs v.top.shards v.top.homes ≡ true
  pub some : 0 < v.top.shards

pub is_of : (v : WorldValue) (a : Actors) (l : Log) → Holds a.topology a l → record { top = a.topology; events = l.events.items } ≡ v → IsOf v
is_of v a l holds is =
    subst IsOf is (record { sound = holds.running.sound; some = (stands a.topology holds.running.sound).some })

module _ (v : WorldValue) (is : IsOf v) where
  pub one_table : ReadsShowOneTable v.top (run_of v)
  one_table = reads_show_one_table v.top v.events is.some

  pub past : ReadsShowTheirPast v.top (run_of v)
  past = reads_show_their_past v.top v.events is.some

  pub arrived : MovesBringTheirPast v.top (run_of v)
  arrived = moves_bring_their_past v.top v.events is.some

  pub fresh : ReadsAreFresh v.top (run_of v)
  fresh = reads_are_fresh v.top v.events is.some

  pub whole : FirstRoundsAreWhole v.top (run_of v)
  whole = first_rounds_are_whole v.top v.events is.some

  pub given_up : CollectedIsBelowHorizon v.top (run_of v)
  given_up = collected_in_runs v.top v.events is.some

  pub entries : EntriesAreOfSubmissions (run_of v)
  entries = entries_are_of_submissions v.top v.events is.some

  pub outcomes : OutcomesAreListed v.top (run_of v)
  outcomes = outcomes_are_listed v.top v.events is.some

  pub told : WritesAreTold v.top (run_of v)
  told = writes_in_runs v.top v.events is.some

  pub times : TimesNeverFall (run_of v)
  times = times_never_fall v.top v.events is.some

  pub homes : HomesAreOfMoves v.top (run_of v)
  homes = homes_are_of_moves v.top v.events is.some

  pub once : OperationsEndOnce (run_of v)
  once = operations_end_once v.top v.events is.some

  pub stamps : StampsAgree v.top (run_of v)
  stamps = stamps_in_runs v.top v.events is.some

  pub causes : StampsFollowCauses v.top (run_of v)
  causes = stamps_follow_causes v.top v.events is.some

  pub pasts : PastsAreDecided v.top (run_of v)
  pasts = pasts_are_decided v.top v.events is.some

  pub tells : (dc : ℕ) (h : History) → IsHistory v.top (run_of v) dc h → TellsDecided v.top (run_of v) dc h
  tells dc h listed = histories_tell v.top v.events dc h is.some listed

  pub grows : (before after : List RunEvent) → v.events ≡ before ++ after → HistoriesGrow v.top before after
  grows before after e = histories_grow v.top before after is.some

  pub stays : (before after : List RunEvent) → v.events ≡ before ++ after → AnswersStay v.top before after
  stays before after e = answers_stay v.top before after is.some

  pub above : (before after : List RunEvent) → v.events ≡ before ++ after → LaterCommitsAreAbove v.top before after
  above before after e = later_commits_are_above v.top before after is.some

  pub settled : IsQuiet (run_of v) → Settled v.top (run_of v)
  settled quiet = quiet_means_done v.top v.events is.sound quiet
