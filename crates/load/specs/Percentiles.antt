-- How long requests took: in which bucket a time is counted, and what a percentile is.
use Rattle.std.specs.Prelude.{ℕ, ◌+◌, ◌-◌, ◌*◌, ◌/◌, ◌≤◌, ◌<◌, List, take, nat_lt, slice_set, get_or, if◌then◌else◌}
use Rattle.std.specs.List.{sum}

-- the bucket of a time in microseconds: one for each below 10 ms, for each 100 below 1 s, for each 10,000 below 100 s, and the last
abbrev pub bucket_of : ℕ → ℕ
bucket_of time =
    if nat_lt time 10000 then time
    else (if nat_lt time 1000000 then 10000 + (time - 10000) / 100
    else (if nat_lt time 100000000 then 19900 + (time - 1000000) / 10000
    else 29800))

-- the greatest time of a bucket; of the last the least
abbrev pub greatest_in : ℕ → ℕ
greatest_in bucket =
    if nat_lt bucket 10000 then bucket
    else (if nat_lt bucket 19900 then 10000 + (bucket - 10000) * 100 + 99
    else (if nat_lt bucket 29800 then 1000000 + (bucket - 19900) * 10000 + 9999
    else 100000000))

-- how many times are counted at most
abbrev pub most : ℕ
most = 1000000000000

-- what buckets hold once a time is counted
abbrev pub counted : ℕ → List ℕ → List ℕ
counted time counts = if nat_lt (sum counts) most then slice_set counts (bucket_of time) (get_or counts (bucket_of time) 0 + 1) else counts

-- the percentile in thousandths lies in this bucket: with it so many of all are reached, and without it they aren't
pub record IsPercentile (permille : ℕ) (counts : List ℕ) (bucket : ℕ) : Type 0 where
  pub reached : permille * sum counts ≤ 1000 * sum (take (bucket + 1) counts)
  pub first : 1000 * sum (take bucket counts) < permille * sum counts
