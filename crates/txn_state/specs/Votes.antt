-- Votes of cohorts, or their notices: each counts once.
use Rattle.std.specs.Prelude.{ℕ, Bool, not, ◌==◌, List, filter, length}
use Rattle.std.specs.List.{list_any}

-- the cohorts, as nodes in the order in which they were given, and those of them whose votes are missing. That none is given
-- twice is the caller's: it would be counted, and told, once for each time
pub record VotesValue : Type 0 where
  pub cohorts : List ℕ
  pub missing : List ℕ

-- whether the node is one of these
abbrev pub is_among : List ℕ → ℕ → Bool
is_among nodes node = list_any (λ n. n == node) nodes

-- the votes of these cohorts, where these nodes have voted
abbrev pub votes_after : List ℕ → List ℕ → VotesValue
votes_after cohorts voters = record { cohorts = cohorts; missing = filter (λ n. not (is_among voters n)) cohorts }

-- after the vote of a node: it is no longer missing; a stranger's, or a second one, was not
abbrev pub counted : VotesValue → ℕ → VotesValue
counted v node = record v { missing = filter (λ n. not (n == node)) v.missing }

abbrev pub are_all_there : VotesValue → Bool
are_all_there v = length v.missing == 0
