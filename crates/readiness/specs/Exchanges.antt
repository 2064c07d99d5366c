-- Requests of many connections, and what they were answered.
use Rattle.std.specs.Prelude.{◌≡◌, ℕ, ◌==◌, List, [], ◌∷◌, map}
use Rattle.std.specs.List.{filter}
use Rattle.messages.specs.declared.op.Op.{Op}
use Rattle.wire.specs.Replies.{Reply}

-- a request, and what it was answered
pub record Exchange : Type 0 where
  pub asked : Op
  pub told : Reply

abbrev pub requests : List Exchange → List Op
requests xs = map (λ (x : Exchange). x.asked) xs

abbrev pub answers : List Exchange → List Reply
answers xs = map (λ (x : Exchange). x.told) xs

-- an exchange of the connection at a place
pub record Entry : Type 0 where
  pub place : ℕ
  pub exchange : Exchange

-- a step for each entry, of its place, each from the port that the step before left
abbrev pub LogChain : {P : Type 0} → (ℕ → P → Op → Reply → P → Type 0) → P → List Entry → P → Type 0
LogChain steps p [] q = p ≡ q
LogChain {P = P} steps p (e ∷ log) q = (r : P) × steps e.place p e.exchange.asked e.exchange.told r × LogChain steps r log q

-- the exchanges at one place, in order
abbrev pub only : ℕ → List Entry → List Exchange
only place log = map (λ (e : Entry). e.exchange) (filter (λ (e : Entry). e.place == place) log)
