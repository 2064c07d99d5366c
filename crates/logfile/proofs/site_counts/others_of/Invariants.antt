use Rattle.std.proofs.Common.{◌≡◌}
use Rattle.logfile.specs.Sites.{others_in}
use Rattle.logfile.proofs.site_counts.others_of.Given as goal

-- those so far are of the data centres so far
abbrev pub invariant-loop-dc : goal.invariant-loop-dc
invariant-loop-dc l = l.others.items ≡ others_in l.here l.dc l.entries
