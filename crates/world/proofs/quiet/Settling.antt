-- In a quiet run each coordinator that knows a transaction has decided it, and its cohorts have applied it: it is quiet among all
-- actors.
use Rattle.std.proofs.Common.{ℕ, ◌<◌, List}
use Rattle.std.specs.Prelude.{Contains}
use Rattle.logical_time.specs.Stamps.{TxnValue}
use Rattle.column_family.specs.declared.batch.Change.{Change}
use Rattle.planner.specs.Plan.{cohorts_of}
use Rattle.messages.specs.Topology.{TopologyValue}
use Rattle.messages.specs.Shard.{BegunBallot}
use Rattle.world.specs.Run.{Run, Submission}
use Rattle.world.specs.Quiet.{IsQuiet, IsQuietAmong}
use Rattle.world.proofs.safety.Facts.{IsWritten, near, lead, Sees}
use Rattle.world.proofs.safety.Invariant.{Inv}
use Rattle.world.proofs.envelopes.About.{Kind, Sent}
use Rattle.world.proofs.under_way.Underway.{HasDecision, Knows, Leads, Acted, Live}
use Rattle.world.proofs.lists.Members.{contains_at}
use Rattle.world.proofs.quiet.Among as among

-- every actor
abbrev pub Everyone : ℕ → Type 0
Everyone node = Unit {0}

pub quiet_among_all : (w : Run) → IsQuiet w → IsQuietAmong Everyone w
quiet_among_all w quiet e m from to = let g = contains_at w.sent e m in (g.0, quiet g.0 g.2, g.1)

module _ (top : TopologyValue) (w : Run) (some : 0 < top.shards) (inv : Inv top w) (live : Live top w) (quiet : IsQuiet w) where
  all : IsQuietAmong Everyone w
  all = quiet_among_all w quiet

  -- what was sent was handled, so it left what it leaves
  pub act : (s r : ℕ) (k : Kind) → Sent w.sent s r k → Acted top w s r k
  act s r k m = among.act top w some inv live Everyone all s r k tt tt m

  pub ballot_decided : (s : ℕ) (u : BegunBallot) → Contains (w.shards s).ballots u → HasDecision (w.shards s) u.txn
  ballot_decided s u i = among.ballot_decided top w some inv live Everyone all s (λ c lt. tt) u tt i

  pub known_decided : (s : ℕ) (t : TxnValue) → Leads top w s t → Knows (w.shards s) t → HasDecision (w.shards s) t
  known_decided s t l k = among.known_decided top w some inv live Everyone all s (λ c lt. tt) t tt l k

  pub home_decided : (t : TxnValue) (b : Submission) (batch : List Change) → IsWritten w t b batch → HasDecision (w.shards (lead top b.home batch)) t
  home_decided t b batch k = among.home_decided top w some inv live Everyone all t b batch k (λ c lt. tt) tt

  -- the cohorts of what is decided have applied it
  pub cohort_applied : (s : ℕ) (t : TxnValue) (b : Submission) (batch : List Change) → IsWritten w t b batch → HasDecision (w.shards s) t → (c : ℕ)
      → Contains (cohorts_of top.shards batch) c → Sees (w.shards (near top s c)).applied t
  cohort_applied s t b batch k d c m = among.cohort_applied top w some inv live Everyone all s (λ c lt. tt) t b batch k d c m
