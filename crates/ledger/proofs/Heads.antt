-- Topologies, by their parts.
use Rattle.std.proofs.Common.{◌≡◌, ◌∙◌, ℕ, List, ap}
use Rattle.messages.specs.Topology.{TopologyValue}

pub top_same : (a b : TopologyValue) → a.dcs ≡ b.dcs → a.shards ≡ b.shards → a.schema ≡ b.schema → a.homes ≡ b.homes → a ≡ b
top_same a b d s f h =
    ap (λ (x : ℕ). record a { dcs = x }) d
    ∙ ap (λ (x : ℕ). record a { dcs = b.dcs; shards = x }) s
    ∙ ap (λ (x : List (List ℕ)). record a { dcs = b.dcs; shards = b.shards; schema = x }) f
    ∙ ap (λ (x : List ℕ). record a { dcs = b.dcs; shards = b.shards; schema = b.schema; homes = x }) h
