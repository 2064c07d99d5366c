use Rattle.peers.specs.Links.{run, started}
use Rattle.peers.proofs.Links.{sound, given_is_kept, kept_was_given, goes_on, told_fits}
use Rattle.peers.proofs.law.nothing_is_lost.Goals as goal

pub returns-clause-kept : goal.returns-clause-kept
returns-clause-kept c = λ es number parcel may le at. given_is_kept (run es started) (sound es may) number parcel le at

pub returns-clause-given : goal.returns-clause-given
returns-clause-given c = λ es number parcel may at. kept_was_given (run es started) (sound es may) number parcel at

pub returns-clause-goes_on : goal.returns-clause-goes_on
returns-clause-goes_on c = λ es may. goes_on (run es started) (sound es may)

pub returns-clause-told : goal.returns-clause-told
returns-clause-told c = λ es number may has. told_fits (run es started) (sound es may) number has
