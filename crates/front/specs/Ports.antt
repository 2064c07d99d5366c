-- A port that answers requests one after the other.
use Rattle.std.specs.Prelude.{◌≡◌, List, [], ◌∷◌}
use Rattle.messages.specs.declared.op.Op.{Op}
use Rattle.wire.specs.Replies.{Reply}

-- a step for each request, with its answer, each from the port that the step before left
abbrev pub Chain : {P : Type 0} → (P → Op → Reply → P → Type 0) → P → List Op → List Reply → P → Type 0
Chain steps p [] [] q = p ≡ q
Chain steps p [] (a ∷ answers) q = ⊥
Chain steps p (op ∷ ops) [] q = ⊥
Chain {P = P} steps p (op ∷ ops) (a ∷ answers) q = (r : P) × steps p op a r × Chain steps r ops answers q
