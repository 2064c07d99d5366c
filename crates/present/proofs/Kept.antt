-- A world that keeps no past keeps the promises.
use Rattle.std.proofs.Common.{◌≡◌, List, subst}
use Rattle.world.specs.declared.run_event.RunEvent.{RunEvent}
use Rattle.world.specs.World.{WorldValue, run_of}
use Rattle.world.proofs.envelopes.Addresses.{stands}
use Rattle.world.proofs.promised.Promised as promised
use Rattle.present.specs.declared.actors.Actors.{Actors}
use Rattle.present.specs.AtRest.{NoneIsGivenUp, StandsAtRest}
use Rattle.present.specs.Promises.{KeepsPromises}
use Rattle.present.proofs.AtRest.{none_is_given_up}

-- of a world of a topology that gave up no read
kept_by : (v : WorldValue) → promised.IsOf v → NoneIsGivenUp (run_of v) → KeepsPromises v
kept_by v is none =
    record {
      one_table = promised.one_table v is;
      stays = promised.stays v is;
      past = promised.past v is;
      fresh = promised.fresh v is;
      arrived = promised.arrived v is;
      whole = promised.whole v is;
      above = promised.above v is;
      none = none;
      given_up = promised.given_up v is;
      entries = promised.entries v is;
      outcomes = promised.outcomes v is;
      once = promised.once v is;
      told = promised.told v is;
      times = promised.times v is;
      homes = promised.homes v is;
      tells = promised.tells v is;
      grows = promised.grows v is;
      stamps = promised.stamps v is;
      causes = promised.causes v is;
      pasts = promised.pasts v is;
      quiet = promised.settled v is;
    }

pub promises_are_kept : (v : WorldValue) (a : Actors) (told : List RunEvent) → StandsAtRest a.topology told a → record { top = a.topology; events = told } ≡ v → KeepsPromises v
promises_are_kept v a told stood is =
    let sound = stood.0.present.sound in
    subst KeepsPromises is
    (kept_by (record { top = a.topology; events = told }) (record { sound = sound; some = (stands a.topology sound).some })
    (none_is_given_up a.topology told sound stood.1))
