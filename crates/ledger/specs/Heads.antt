-- The head of a log.
use Rattle.std.specs.Prelude.{◌≡◌, ◌<◌, ◌^◌, ℕ, List, [], ◌∷◌, ◌++◌, length, true, Result, Ok, Err}
use Rattle.std.specs.Int.{w64, to_be_bytes}
use Rattle.byteorder.specs.Endian.{big_bytes}
use Rattle.column_family.specs.Schema.{is_schema}
use Rattle.messages.specs.Topology.{TopologyValue, is_topology}
use Rattle.records.specs.Records.{spelling}
use Rattle.ledger.specs.declared.head.HeadError.{HeadError}
use Rattle.ledger.specs.declared.head.HeadError.TheVariants.{NoLog, Version, Damaged, Memory}

-- each home in two bytes
abbrev pub homes_text : List ℕ → List ℕ
homes_text [] = []
homes_text (home ∷ homes) = big_bytes 2 home ++ homes_text homes

-- the name of each family behind its length in two bytes
abbrev pub families_text : List (List ℕ) → List ℕ
families_text [] = []
families_text (name ∷ names) = big_bytes 2 (length name) ++ name ++ families_text names

-- how many data centres, shards of each and sessions there are, each in two bytes, then the homes and the families
abbrev pub topology_text : TopologyValue → List ℕ
topology_text top = big_bytes 2 top.dcs ++ (big_bytes 2 top.shards ++ (big_bytes 2 (length top.homes) ++ (homes_text top.homes ++ families_text top.schema)))

-- "eiger" and a version
abbrev pub titled : ℕ → List ℕ
titled version = 101 ∷ 105 ∷ 103 ∷ 101 ∷ 114 ∷ version ∷ []

-- "eiger", the version, the secret, and the record of the topology's text
abbrev pub head_of : ℕ → TopologyValue → List ℕ
head_of secret top = titled 1 ++ (to_be_bytes w64 secret ++ spelling secret 0 (record { first = true; body = topology_text top }))

-- a store that there can be: so many data centres, shards and sessions, and families with names
abbrev pub IsStore : TopologyValue → Type 0
IsStore top = (is_topology top.dcs top.shards top.homes ≡ true) × (is_schema top.schema ≡ true)

-- this topology is told, or memory is refused
abbrev pub IsAsTold : TopologyValue → Result TopologyValue HeadError → Type 0
IsAsTold top (Ok told) = told ≡ top
IsAsTold top (Err e) = e ≡ Memory

-- the head of a store stands there, with some secret of eight bytes
abbrev pub BeginsAsStore : List ℕ → Type 0
BeginsAsStore file = (secret : ℕ) × (secret < 2 ^ 64) × (top : TopologyValue) × IsStore top × (rest : List ℕ) × (file ≡ head_of secret top ++ rest)

-- Why a file doesn't begin with a head: it has no name and version, another version, or those but no store's head; or there is no
-- memory.
abbrev pub IsNoHead : List ℕ → HeadError → Type 0
IsNoHead file NoLog = (version : ℕ) (rest : List ℕ) → file ≡ titled version ++ rest → ⊥
IsNoHead file (Version v) = (rest : List ℕ) × (file ≡ titled v ++ rest) × (v ≡ 1 → ⊥)
IsNoHead file Damaged = (rest : List ℕ) × (file ≡ titled 1 ++ rest) × (BeginsAsStore file → ⊥)
IsNoHead file Memory = Unit {0}
