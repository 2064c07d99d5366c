use Rattle.std.proofs.Common.{◌≡◌, ◌++◌, string_bytes, take}
use Rattle.std.specs.List.{flat_map}
use Rattle.logfile.specs.Sites.{other_text}
use Rattle.logfile.proofs.site_summary.put_others.Given as goal

-- the lines so far are put
abbrev pub invariant-loop-other : goal.invariant-loop-other
invariant-loop-other l = string_bytes l.text ≡ string_bytes l.fn.text ++ flat_map other_text (take l.other-index l.others)
