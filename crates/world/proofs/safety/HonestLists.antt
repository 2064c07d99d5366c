-- What was sent to a shard in a run is honest, and so is what it handled.
use Rattle.std.proofs.Common.{◌≡◌, ℕ, ◌<◌, List, [], sym, subst, arith}
use Rattle.std.specs.Prelude.{Contains}
use Rattle.column_family.specs.declared.batch.Change.{Change}
use Rattle.column_family.specs.Normal.{IsNormal}
use Rattle.column_family.specs.Places.{normal_of}
use Rattle.column_family.proofs.Order.{normal_form}
use Rattle.planner.proofs.Parts.{normal_part}
use Rattle.messages.specs.declared.body.Body.{Body}
use Rattle.messages.specs.declared.body.Body.TheVariants.{Begin, Prepare, Yes, Commit, At, NotBy, Check, Read as ReadNow, ReadAt, ReplBegin, ReplPart, Notify, PrepareRemote, DepCheck, DepOk, Done, PartNow, PartAt}
use Rattle.messages.specs.declared.envelope.Envelope.{Envelope}
use Rattle.messages.specs.Topology.{TopologyValue, shard_of}
use Rattle.messages.specs.Honest.{IsHonest, ToldCommit, all_told, part_in}
use Rattle.world.specs.Run.{Run}
use Rattle.world.specs.Met.{envelopes_to}
use Rattle.world.proofs.safety.Facts.{part_on}
use Rattle.world.proofs.safety.Invariant.{Inv, Says}
use Rattle.world.proofs.safety.Told.{said, told_true, told_commit, told_stamp, told_above, told_excluded, stamp_met, met_apart, WereSent, IsTrue, handled_were_sent}

-- ## Parts in normal form

nothing_normal : IsNormal []
nothing_normal = λ i j d lt below. absurd (omega arith)

normal_on : (top : TopologyValue) (batch rows : List Change) (node : ℕ) → rows ≡ part_on top batch node → IsNormal rows
normal_on top batch rows node e = subst IsNormal (sym e) (normal_part top.shards (shard_of top node) (normal_of batch) (normal_form batch))

part_normal : (top : TopologyValue) (w : Run) (from node time : ℕ) (b : Body) → Says top w from node time b → IsNormal (part_in b)
part_normal top w from node time (Begin t rows cohorts dependencies) h = normal_on top h.batch rows node h.rows
part_normal top w from node time (Prepare t rows coordinator) h = normal_on top h.batch rows node h.rows
part_normal top w from node time (ReplBegin cohorts t rows stamp dependencies) h = normal_on top h.batch rows node h.rows
part_normal top w from node time (ReplPart t rows stamp coordinator) h = normal_on top h.batch rows node h.rows
part_normal top w from node time (Yes t) h = nothing_normal
part_normal top w from node time (Commit t n s) h = nothing_normal
part_normal top w from node time (At t n s) h = nothing_normal
part_normal top w from node time (NotBy t bound) h = nothing_normal
part_normal top w from node time (Check t bound) h = nothing_normal
part_normal top w from node time (ReadNow number read) h = nothing_normal
part_normal top w from node time (ReadAt number bound read) h = nothing_normal
part_normal top w from node time (Notify t) h = nothing_normal
part_normal top w from node time (PrepareRemote t) h = nothing_normal
part_normal top w from node time (DepCheck dependency waiter) h = nothing_normal
part_normal top w from node time (DepOk dependency waiter commit) h = nothing_normal
part_normal top w from node time (Done t commit stamp) h = nothing_normal
part_normal top w from node time (PartNow number rows) h = nothing_normal
part_normal top w from node time (PartAt number bound rows) h = nothing_normal

-- ## All of it

module _ (top : TopologyValue) (w : Run) (node : ℕ) (inv : Inv top w) (es : List Envelope) (sent : WereSent w node es) where
  it_says : (e : Envelope) → Contains es e → Says top w e.from node e.time e.body
  it_says e has = said top w node es sent e inv has

  is_true : (x : ToldCommit) → Contains (all_told es) x → IsTrue top w node x
  is_true x has = told_true top w node es sent x inv has

  excluded_above : (x : ToldCommit) (e : Envelope) (time : ℕ) → Contains (all_told es) x → Contains es e → e.body ≡ NotBy x.txn time → time < x.commit
  excluded_above x e time told has body =
      let h = subst (Says top w e.from node e.time) body (it_says e has) in told_excluded top w e.from node time x inv (is_true x told) h.0 h.1

  -- what was sent to a shard in a run is honest
  pub sent_honest : IsHonest (w.shards node) es
  sent_honest = record {
    commit = λ x y m n same. told_commit top w node x y inv (is_true x m) (is_true y n) same;
    stamp = λ x y m n same. told_stamp top w node x y inv (is_true x m) (is_true y n) same;
    prepared = λ x p m k same. told_above top w node p x inv k (is_true x m) same;
    told = λ x m. (is_true x m).time;
    excluded = excluded_above;
    stamps = λ y z m k same. met_apart top w y z inv (stamp_met top w node es sent y inv m) (stamp_met top w node es sent z inv k) same;
    read = λ e number time r m body. (subst (Says top w e.from node e.time) body (it_says e m)).0;
    parts = λ e m. part_normal top w e.from node e.time e.body (it_says e m);
  }

-- the envelopes that a shard handled in a run are honest
pub handled_honest : (top : TopologyValue) (w : Run) (node : ℕ) → Inv top w → IsHonest (w.shards node) (envelopes_to w node)
handled_honest top w node inv = sent_honest top w node inv (envelopes_to w node) (handled_were_sent w node)
