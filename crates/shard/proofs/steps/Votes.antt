-- Commit, At and NotBy.
use Rattle.std.proofs.Common.{◌≡◌, ◌∙◌, sym, ap, refl, ℕ, ◌<◌, ◌≤◌, inl, inr, true, false, nat_le, List, [], map, arith}
use Rattle.std.specs.Prelude.{Contains}
use Rattle.std.proofs.lemmas.Bool.Decides.{nat_tests}
use Rattle.std.proofs.lemmas.List.Elements.{Contains-append_left}
use Rattle.logical_time.specs.Stamps.{TxnValue, StampValue}
use Rattle.planner.proofs.Members.{contains_map}
use Rattle.messages.specs.declared.body.Body.TheVariants as body
use Rattle.messages.specs.declared.envelope.Envelope.{Envelope}
use Rattle.messages.specs.Topology.{TopologyValue}
use Rattle.messages.specs.Words.{other_dcs}
use Rattle.messages.specs.Shard.{ShardState, Role, Own, Cohort, Replica, PreparedPart, Decision}
use Rattle.messages.specs.Known.{is_applied}
use Rattle.messages.specs.Commits.{applied_part, repl_parts, apply_part, on_not_by}
use Rattle.messages.specs.Honest.{ToldCommit, all_told, IsHonest, StampedTxn}
use Rattle.shard.specs.Sound.{Seen, BodySound, Holds, Able, IsWithin}
use Rattle.shard.proofs.lists.Lists.{each_mapped}
use Rattle.shard.proofs.knowing.Grow.{with_applied}
use Rattle.shard.proofs.knowing.Additions.{stamped_txn, apply_one}
use Rattle.shard.proofs.knowing.LetGo.{able_after, ArePlain, let_go_able}
use Rattle.shard.proofs.steps.Commits.{is_applied_now}

-- ## Commit and At

repl_parts_plain : (es : Seen) (role : Role) (top : TopologyValue) (me n : ℕ) (p : PreparedPart) (stamp : StampValue) → ArePlain es (repl_parts role top me n p stamp)
repl_parts_plain es Own top me n p stamp b = tt
repl_parts_plain es Cohort top me n p stamp b = each_mapped (λ (e : Envelope). BodySound es b e.to e.body) _ (other_dcs top me) (λ d has. tt)
repl_parts_plain es Replica top me n p stamp b = tt

-- a commit time and a stamp were told of a transaction
abbrev pub IsTold : List Envelope → TxnValue → ℕ → StampValue → Type 0
IsTold es t commit stamp = (time : ℕ) × Contains (all_told es) (record { txn = t; commit = commit; stamp = stamp; time = time })

pub apply_able : {top : TopologyValue} {me : ℕ} {last : ShardState} {es : Seen} (a : ShardState) (n : ℕ) (p : PreparedPart) (commit : ℕ) (stamp : StampValue)
    → IsHonest last es.envelopes → a.clock < n → Contains a.prepared p → (p.role ≡ Own → ⊥) → is_applied p.txn a ≡ false → IsTold es.envelopes p.txn commit stamp
    → IsWithin a last → Holds top me last es a → Able top me last es a (apply_part top me n a p commit stamp)
apply_able {top = top} {me = me} {last = last} {es = es} a n p commit stamp honest lt has not_own new told within h =
    let x = applied_part p.txn p.coordinator p.rows commit stamp in
    let t : ToldCommit = record { txn = p.txn; commit = commit; stamp = stamp; time = told.0 } in
    let met = contains_map (λ (z : ToldCommit). let s : StampedTxn = record { txn = z.txn; stamp = z.stamp } in s) (all_told es.envelopes) t told.1 in
    let own = map (λ (d : Decision). let s : StampedTxn = record { txn = d.txn; stamp = d.stamp } in s) last.decided in
    able_after
    (apply_one a x honest (h.prepared p has) (Contains-append_left _ own (stamped_txn x) met) (inr (p, has, refl, not_own)) (inl (t, told.1, refl, refl, refl)) new
    (inr (p, has, refl, refl, honest.prepared t p told.1 (within.prepared p has) refl, (t, told.1, refl, refl))) h)
    (λ h1. let_go_able (with_applied a x) n p.txn (λ y. true) (repl_parts p.role top me n p stamp) (omega (arith, lt))
    (λ y waits is. inl (is_applied_now a x)) (repl_parts_plain es p.role top me n p stamp) h1)

-- ## NotBy

at_most : (n m : ℕ) → nat_le n m ≡ true → n ≤ m
at_most n m e = grind (arith, nat_tests)

pub not_by_able : {top : TopologyValue} {me : ℕ} {last : ShardState} {es : Seen} (a : ShardState) (n from : ℕ) (t : TxnValue) (time : ℕ) (e : Envelope)
    → IsHonest last es.envelopes → a.clock < n → Contains es.envelopes e → e.body ≡ body.NotBy t time → Holds top me last es a
    → Able top me last es a (on_not_by me n a t time)
not_by_able a n from t time e honest lt has is h =
    let_go_able a n t (λ x. nat_le x.time time) [] (omega (arith, lt))
    (λ x waits below.
    let le = at_most x.time time below in
    inr (record {
      told = e;
      among = has;
      bound = time;
      body = is;
      bounded = le;
      above = λ told in_it same. (let above = honest.excluded told e time in_it has (is ∙ ap (λ u. body.NotBy u time) (sym same)) in omega (arith, le, above));
    }))
    (λ b. tt) h
