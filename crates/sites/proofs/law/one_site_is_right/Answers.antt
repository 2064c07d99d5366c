use Rattle.world.proofs.replays.Merged.{are_a_run}
use Rattle.sites.proofs.Alone.{entries_are, reads_are}
use Rattle.sites.proofs.law.one_site_is_right.Goals as goal

pub returns-clause-run : goal.returns-clause-run
returns-clause-run c = λ top journals fit. are_a_run top journals fit

pub returns-clause-entries : goal.returns-clause-entries
returns-clause-entries c = λ top dc node s journals events story has here is. entries_are top dc node s journals story has here events is

pub returns-clause-reads : goal.returns-clause-reads
returns-clause-reads c = λ top dc node number s journals read time answer h story has here session fit asked told all. reads_are top dc node s journals story has here number read time answer h session fit asked told all
