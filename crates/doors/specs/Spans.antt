-- What becomes of the connections at places between two moments: arrivals and departures, and all that was asked meanwhile.
use Rattle.std.specs.Prelude.{◌≡◌, ℕ, List, [], ◌++◌, ◌⊎◌, map, Option, None, All, slice_get}
use Rattle.messages.specs.declared.op.Op.{Op}
use Rattle.wire.specs.Replies.{Reply}
use Rattle.readiness.specs.declared.connection.Connection.{Connection}
use Rattle.readiness.specs.declared.run.Gone.{Gone}
use Rattle.readiness.specs.Lines.{ReadyValue}
use Rattle.readiness.specs.Exchanges.{Exchange, Entry, LogChain, only}
use Rattle.readiness.specs.Kept.{view}
use Rattle.readiness.specs.Turns.{IsOver, IsAnswered}
use Rattle.readiness.specs.Runs.{Admitted, lines_at, gone_at, standing, Lives}
use Rattle.doors.specs.Doorways.{Gives, lines_of}

-- Whatever lives there were at a place go on: with the lines that were given it, what its connections asked, those that left it,
-- and the one that stands there.
abbrev pub Lived : {L : Type 0} → (L → ReadyValue) → List Entry → List (Admitted L) → List (Gone L) → List (Option (Connection L)) → List (Option (Connection L)) → Type 0
Lived {L = L} seen log admitted left old new =
    (k : ℕ) (lines : List L) (past : List Exchange) (gone : List (Connection L)) → Lives seen lines past (gone ++ standing (slice_get old k))
    → Lives seen (lines ++ lines_at k admitted) (past ++ only k log) ((gone ++ gone_at k left) ++ standing (slice_get new k))

-- each that left was over
abbrev pub AreOver : {L : Type 0} → (L → ReadyValue) → List (Gone L) → Type 0
AreOver {L = L} seen left = All (λ (g : Gone L). IsOver (view seen g.connection)) left

-- each that left was over; or, where those that send nothing aren't borne for ever, all its requests that were read
-- were answered
abbrev pub HaveEnded : {L : Type 0} → (L → ReadyValue) → Option ℕ → List (Gone L) → Type 0
HaveEnded {L = L} seen idle left = All (λ (g : Gone L). IsOver (view seen g.connection) ⊎ ((idle ≡ None → ⊥) × IsAnswered (view seen g.connection))) left

-- connections that were over left, and no other thing happened
abbrev pub HaveLeft : {L : Type 0} → (L → ReadyValue) → List (Option (Connection L)) → List (Option (Connection L)) → Type 0
HaveLeft {L = L} seen old new = (left : List (Gone L)) × AreOver seen left × Lived seen [] [] left old new

-- the door gave lines, which were given places, and no other thing happened
abbrev pub HaveCome : {L : Type 0} {D : Type 0} → (L → ReadyValue) → (D → Option L → D → Type 0) → D → List (Option (Connection L)) → D → List (Option (Connection L)) → Type 0
HaveCome {L = L} seen steps d old e new =
    (admitted : List (Admitted L)) × (calls : List (Option L)) × Gives steps d calls e × (map (λ (a : Admitted L). a.line) admitted ≡ lines_of calls) × Lived seen [] admitted [] old new

-- The port goes through one chain of its steps, each of one place. The lines that the door gave were given places, in
-- order; at each place these became the connections that left it, which had ended, and the one that stands there, one
-- after the other, and what they asked is what was asked at that place.
pub record Spans {L : Type 0} {P : Type 0} {D : Type 0} (seen : L → ReadyValue) (asks : ℕ → P → Op → Reply → P → Type 0) (gives : D → Option L → D → Type 0) (idle : Option ℕ) (d : D) (old : List (Option (Connection L))) (p : P) (e : D) (new : List (Option (Connection L))) (q : P) : Type 0 where
  pub log : List Entry
  pub chain : LogChain asks p log q
  pub admitted : List (Admitted L)
  pub left : List (Gone L)
  pub calls : List (Option L)
  pub door : Gives gives d calls e
  pub given : map (λ (a : Admitted L). a.line) admitted ≡ lines_of calls
  pub ended : HaveEnded seen idle left
  pub lives : Lived seen log admitted left old new
