-- What a shard sends to the shards of the same number in the other data centres.
use Rattle.std.proofs.Common.{◌≡◌, ◌∙◌, ap, sym, refl, ℕ, false, List, ◌∷◌, map, Option, Some, None}
use Rattle.std.specs.Prelude.{is_some}
use Rattle.std.proofs.lemmas.Simd.{map-map}
use Rattle.logical_time.specs.Stamps.{StampValue, TxnValue, WriterValue}
use Rattle.column_family.specs.declared.batch.Change.{Change}
use Rattle.messages.specs.declared.body.Body.{Body}
use Rattle.messages.specs.declared.body.Body.TheVariants as body
use Rattle.messages.specs.Topology.{TopologyValue, shard_of, shard_node}
use Rattle.messages.specs.Words.{envelope, other_dcs}
use Rattle.messages.specs.Shard.{PreparedPart}
use Rattle.messages.specs.Commits as machine
use Rattle.write_txn.specs.declared.open.Origin.{Origin}
use Rattle.write_txn.specs.declared.open.Origin.TheVariants.{Submitted}
use Rattle.write_txn.specs.Roles.{role_of}

-- these nodes are those shards
abbrev pub AreBeside : TopologyValue → ℕ → List ℕ → Type 0
AreBeside top me nodes = nodes ≡ map (λ d. shard_node top d (shard_of top me)) (other_dcs top me)

sent_beside : (top : TopologyValue) (me from time : ℕ) (b : Body) (nodes : List ℕ) → from ≡ me → AreBeside top me nodes
    → map (λ n. envelope from n time b) nodes ≡ map (λ d. envelope me (shard_node top d (shard_of top me)) time b) (other_dcs top me)
sent_beside top me from time b nodes own are =
    ap (λ f. map (λ n. envelope f n time b) nodes) own
    ∙ (ap (map (λ n. envelope me n time b)) are
    ∙ map-map (λ n. envelope me n time b) (λ d. shard_node top d (shard_of top me)) (other_dcs top me))

-- a part of a write that was submitted here
pub parts_beside : (o : Origin) (top : TopologyValue) (me from time : ℕ) (p : PreparedPart) (w : WriterValue) (rows : List Change) (stamp : StampValue) (nodes : List ℕ)
    → o ≡ Submitted → p.txn ≡ w.txn → p.rows ≡ rows → p.coordinator ≡ w.shard → from ≡ me → AreBeside top me nodes
    → map (λ n. envelope from n time (body.ReplPart w.txn rows stamp w.shard)) nodes ≡ machine.repl_parts (role_of o) top me time p stamp
parts_beside o top me from time p w rows stamp nodes here txn same coordinator own are =
    ap (λ t. map (λ n. envelope from n time (body.ReplPart t rows stamp w.shard)) nodes) (sym txn)
    ∙ (ap (λ r. map (λ n. envelope from n time (body.ReplPart p.txn r stamp w.shard)) nodes) (sym same)
    ∙ (ap (λ s. map (λ n. envelope from n time (body.ReplPart p.txn p.rows stamp s)) nodes) (sym coordinator)
    ∙ (sent_beside top me from time (body.ReplPart p.txn p.rows stamp p.coordinator) nodes own are
    ∙ ap (λ x. machine.repl_parts (role_of x) top me time p stamp) (sym here))))

-- the decision on a write that was submitted here
pub announced_beside : (stamp : Option StampValue) (top : TopologyValue) (me from time : ℕ) (t : TxnValue) (rows : List Change) (cohorts : List ℕ) (dependencies : List WriterValue) (nodes : List ℕ)
    → is_some stamp ≡ false → from ≡ me → AreBeside top me nodes
    → envelope from t.session time (body.Done t time (record { time = time; node = from }))
    ∷ map (λ n. envelope from n time (body.ReplBegin cohorts t rows (record { time = time; node = from }) dependencies)) nodes
    ≡ machine.announcements top me time (record { txn = t; rows = rows; cohorts = cohorts; dependencies = dependencies; stamp = stamp }) stamp
announced_beside (Some s) top me from time t rows cohorts dependencies nodes none own are = absurd (cc)
announced_beside None top me from time t rows cohorts dependencies nodes none own are =
    ap (λ f. envelope f t.session time (body.Done t time (record { time = time; node = f }))
    ∷ map (λ n. envelope f n time (body.ReplBegin cohorts t rows (record { time = time; node = f }) dependencies)) nodes) own
    ∙ ap (λ es. envelope me t.session time (body.Done t time (record { time = time; node = me })) ∷ es)
    (sent_beside top me me time (body.ReplBegin cohorts t rows (record { time = time; node = me }) dependencies) nodes refl are)
