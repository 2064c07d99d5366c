-- What is counted of replies.
use Rattle.std.specs.Prelude.{ℕ, ◌+◌, List, nat_lt, slice_set, get_or, if◌then◌else◌}
use Rattle.load.specs.Percentiles.{counted, most}
use Rattle.load.specs.declared.replies.Reply.{Reply}
use Rattle.load.specs.declared.replies.Reply.TheVariants.{Wrote, Read, Refused}

-- how long reads took, and writes, and both, in buckets; and how often requests were refused, by number
pub record TallyValue : Type 0 where
  pub reads : List ℕ
  pub writes : List ℕ
  pub together : List ℕ
  pub refused : List ℕ

-- one more under this number
abbrev pub one_more : ℕ → List ℕ → List ℕ
one_more number counts = if nat_lt (get_or counts number most) most then slice_set counts number (get_or counts number most + 1) else counts

-- A reply is counted that came after so many microseconds. How long it took until a refusal is not.
abbrev pub noted : Reply → ℕ → TallyValue → TallyValue
noted Read time t = record t { reads = counted time t.reads; together = counted time t.together }
noted Wrote time t = record t { writes = counted time t.writes; together = counted time t.together }
noted (Refused number) time t = record t { refused = one_more number t.refused }
