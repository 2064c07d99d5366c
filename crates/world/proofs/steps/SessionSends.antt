-- What a session sends: at a submission Begin, Prepare, Read or DepCheck, at a message ReadAt, and all of it from its
-- node.
use Rattle.std.proofs.Common.{◌≡◌, sym, refl, subst, ℕ, ◌+◌, List, ◌∷◌, [], map, inl, inr}
use Rattle.std.specs.Prelude.{Contains}
use Rattle.column_family.specs.declared.batch.Change.{Change}
use Rattle.planner.specs.Plan.{cohorts_of, shards_asked}
use Rattle.messages.specs.declared.op.Op.{Op}
use Rattle.messages.specs.declared.body.Body.{Body}
use Rattle.messages.specs.declared.body.Body.TheVariants as body
use Rattle.messages.specs.declared.envelope.Envelope.{Envelope}
use Rattle.messages.specs.Topology.{TopologyValue}
use Rattle.messages.specs.Words.{envelope}
use Rattle.messages.specs.Session.{SessionState, SessionStep}
use Rattle.messages.specs.Submitting.{home_node, prepare_of, write_begun, share_of, check_of, begun}
use Rattle.messages.specs.SessionEvents.{read_at_of, heard}
use Rattle.world.proofs.lists.Members.{none_in_empty, contains_cases, mapped_from}
use Rattle.world.proofs.steps.HeardCases.{heard_cases}
use Rattle.world.proofs.steps.BegunCases.{begun_cases}

-- a body that sessions send
abbrev pub IsOfSession : Body → Type 0
IsOfSession (body.Begin t rows cohorts dependencies) = Unit {0}
IsOfSession (body.Prepare t rows coordinator) = Unit {0}
IsOfSession (body.Read number read) = Unit {0}
IsOfSession (body.ReadAt number time read) = Unit {0}
IsOfSession (body.DepCheck dependency waiter) = Unit {0}
IsOfSession other = ⊥

-- each of these is one, from this node
abbrev pub AreOfSession : ℕ → List Envelope → Type 0
AreOfSession me es = (e : Envelope) → Contains es e → (e.from ≡ me) × IsOfSession e.body

mapped : {X : Type 0} (me : ℕ) (f : X → Envelope) (xs : List X) → ((x : X) → ((f x).from ≡ me) × IsOfSession (f x).body) → AreOfSession me (map f xs)
mapped me f xs k e m =
    let r = mapped_from f xs e m in
    subst (λ (z : Envelope). (z.from ≡ me) × IsOfSession z.body) (sym r.2) (k r.0)

nothing : (me : ℕ) → AreOfSession me []
nothing me e m = absurd (none_in_empty e m)

pub heard_sends : (top : TopologyValue) (me n : ℕ) (a : SessionState) (from : ℕ) (m : Body) → AreOfSession me (heard top me n a from m).sends
heard_sends top me n a from m =
    heard_cases top me n a from m (λ (st : SessionStep). AreOfSession me st.sends)
    (record {
      still = λ ignored. nothing me;
      wrote = λ coordinator t commit stamp k. nothing me;
      kept = λ read hs rows k some. nothing me;
      second = λ read hs rows k all s ss e. mapped me (read_at_of me n a read _ _) (s ∷ ss) (λ node. (refl, tt));
      ends = λ read hs rows k all e. nothing me;
      kept_at = λ read time first hs rows k some. nothing me;
      ends_at = λ read time first hs rows k all. nothing me;
      gives_up = λ read time first hs k. nothing me;
      counted = λ dc left floor dependency commit k u us e. nothing me;
      arrives = λ dc left floor dependency commit k e. nothing me;
    })

pub begun_sends : (top : TopologyValue) (me n : ℕ) (a : SessionState) (o : Op) → AreOfSession me (begun top me n a o).sends
begun_sends top me n a o =
    begun_cases top me n a (λ o (st : SessionStep). AreOfSession me st.sends)
    (record {
      writes = write_sends;
      reads = λ read.
          mapped me (λ s. envelope me (home_node top a s) n (body.Read (a.count + 1) (share_of top read s))) (shards_asked top.shards read.keys) (λ s. (refl, tt));
      moves = λ dc k ks e. mapped me (check_of top me n a dc) a.dependencies (λ k. (refl, tt));
      at_once = λ dc e. nothing me;
    }) o
  where
    write_sends : (batch : List Change) → AreOfSession me (write_begun top me n a batch).sends
    write_sends batch e m = elim (contains_cases _ e _ m) [
      | inl q ↦ subst (λ (z : Envelope). (z.from ≡ me) × IsOfSession z.body) (sym q) (refl, tt)
      | inr r ↦ mapped me (prepare_of top me n a batch) (cohorts_of top.shards batch) (λ s. (refl, tt)) e r
    ]
