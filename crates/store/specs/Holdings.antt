-- How much rows hold.
use Rattle.std.specs.Prelude.{ℕ, ◌+◌, min, List, length, map}
use Rattle.std.specs.List.{sum_by}
use Rattle.column_family.specs.declared.batch.Row.{Row}
use Rattle.versions.specs.Chain.{Held}
use Rattle.store.specs.declared.holdings.Holdings.{Holdings}
use Rattle.store.specs.Stored.{Chains}

-- a count stays at the greatest value of its type
abbrev pub counted : ℕ → ℕ
counted n = min n 18446744073709551615

abbrev pub no_holdings : Holdings
no_holdings = record { rows = 0; versions = 0 }

abbrev pub held_together : Holdings → Holdings → Holdings
held_together a b = record { rows = counted (a.rows + b.rows); versions = counted (a.versions + b.versions) }

-- the versions of a chain
abbrev pub versions_held : Held → ℕ
versions_held h = length h.versions

-- the versions of a row's columns, and of its deletions
abbrev pub versions_of : Chains → ℕ
versions_of r = sum_by versions_held (map (λ e. e.1) r.columns) + versions_held r.deletions

-- how much these rows hold
abbrev pub holdings_of : List (Row × Chains) → Holdings
holdings_of rows = record { rows = length rows; versions = counted (sum_by versions_of (map (λ e. e.1) rows)) }
