use Rattle.std.proofs.Common.{◌≡◌, ◌++◌, replicate}
use Rattle.sites_file.proofs.reading.put_home.Given as goal

abbrev pub invariant-loop-session : goal.invariant-loop-session
invariant-loop-session l = l.homes.items ≡ l.fn.homes.items ++ replicate l._session l.dc
