-- ReplBegin, ReplPart, Notify, PrepareRemote, DepCheck and DepOk.
use Rattle.std.proofs.Common.{◌≡◌, sym, subst, refl, ℕ, ◌<◌, ◌⊎◌, inl, inr, true, false, List, [], ◌∷◌, map, arith}
use Rattle.std.specs.Prelude.{Contains}
use Rattle.std.proofs.lemmas.List.Elements.{Contains-push}
use Rattle.column_family.specs.Normal.{IsNormal}
use Rattle.messages.specs.declared.body.Body.{Body}
use Rattle.messages.specs.declared.body.Body.TheVariants as body
use Rattle.messages.specs.declared.envelope.Envelope.{Envelope}
use Rattle.messages.specs.Topology.{TopologyValue, dc_of, shard_node}
use Rattle.messages.specs.Words.{envelope}
use Rattle.messages.specs.Shard.{ShardState, ShardStep, KeptPart, KeptBallot}
use Rattle.messages.specs.Known.{is_known}
use Rattle.messages.specs.Replication.{ballot_of, is_ready, dep_checks, sent_before, with_ballot, with_notice, with_met}
use Rattle.messages.specs.Reads.{answer}
use Rattle.messages.specs.Honest.{part_in, IsHonest}
use Rattle.shard.specs.Sound.{Seen, IsBallot, IsDecided, BodySound, Holds, Able, IsWithin}
use Rattle.shard.proofs.lists.Lists.{no_truth, each_joined, each_mapped}
use Rattle.shard.proofs.steps.HandledCases.{replicated, Brings, the_ballot, a_notice, an_answer, ReadyStep, misses, alone, asks}
use Rattle.shard.proofs.knowing.Updates.{more_notices, more_met, with_kept_part, keep_part, keep_ballot}
use Rattle.shard.proofs.knowing.LetGo.{able_after, quiet_able, answer_able}
use Rattle.shard.proofs.steps.Commits.{unknown_unled, unknown_unfollowed, decide_able, hold_able}

-- ## The remote coordinator

pub ready_able : {top : TopologyValue} {me : ℕ} {last : ShardState} {es : Seen} (a : ShardState) (n : ℕ) (r : KeptBallot) (st : ShardStep) → ReadyStep top me n a r st
    → IsHonest last es.envelopes → a.clock < n → Contains a.kept_ballots r → (IsBallot a r.txn ⊎ IsDecided a r.txn → ⊥)
    → IsWithin st.state last → Holds top me last es a → Able top me last es a st
ready_able a n r st (misses is) honest lt has unbegun within h = quiet_able a n (omega (arith, lt)) h
ready_able {top = top} {me = me} a n r st (alone is none) honest lt has unbegun within h =
    decide_able a n (ballot_of r) honest lt (h.kept_ballots r has) (λ followed. h.sides r.txn (inr (inr (r, has, refl))) followed) (λ d. unbegun (inr d))
    (λ s kept same. subst (λ z. is_ready top me a z ≡ true) (h.one r s has kept (sym same)) is) within h
ready_able {top = top} {me = me} {es = es} a n r st (asks is c cs some) honest lt has unbegun within h =
    hold_able a n (ballot_of r) [] (map (λ s. envelope me (shard_node top (dc_of top me) s) n (body.PrepareRemote r.txn)) (c ∷ cs)) lt (h.kept_ballots r has)
    (λ followed. h.sides r.txn (inr (inr (r, has, refl))) followed)
    (λ s kept same. subst (λ z. is_ready top me a z ≡ true) (h.one r s has kept (sym same)) is)
    (λ b. each_mapped (λ (e : Envelope). BodySound es b e.to e.body) _ (c ∷ cs) (λ s in_it. tt)) h

-- a ballot that misses something isn't begun
unready_unbegun : {top : TopologyValue} {me : ℕ} {last : ShardState} {es : Seen} (a : ShardState) (r : KeptBallot) → Contains a.kept_ballots r
    → is_ready top me a r ≡ false → Holds top me last es a → IsBallot a r.txn ⊎ IsDecided a r.txn → ⊥
unready_unbegun {top = top} {me = me} a r has unready h begun = no_truth (is_ready top me a r) (h.readied r has begun) unready

pub brings_able : {top : TopologyValue} {me : ℕ} {last : ShardState} {es : Seen} (a : ShardState) (n from : ℕ) (m : Body) (r : KeptBallot) (b : ShardState)
    (first : List Envelope) (st : ShardStep) → Brings top me n a from m r b first → ReadyStep top me n b r st
    → IsHonest last es.envelopes → a.clock < n → IsNormal (part_in m) → IsWithin st.state last → Holds top me last es a
    → Able top me last es a (sent_before first st)
brings_able {top = top} {me = me} {es = es} a n from m r b first st (the_ballot t rows stamp cohorts dependencies new) step honest lt normal within h =
    let unled = unknown_unled t a new in
    let kept = replicated t rows stamp cohorts dependencies in
    let begun : IsBallot a t ⊎ IsDecided a t → ⊥ = λ b. elim b [ inl ballot ↦ unled (inl ballot) | inr decided ↦ unled (inr (inl decided)) ] in
    let k = able_after (keep_ballot a kept normal (unknown_unfollowed t a new) unled h)
    (λ h1. ready_able (with_ballot a kept) n kept st step honest lt (Contains-push a.kept_ballots kept) begun within h1) in
    record {
      onward = k.onward;
      sends = each_joined (λ (z : Envelope). BodySound es st.state z.to z.body) (dep_checks top me n kept) st.sends
          (each_mapped (λ (z : Envelope). BodySound es st.state z.to z.body) _ dependencies (λ w in_it. tt)) k.sends;
    }
brings_able a n from m r b first st (a_notice t k has same awaited unready) step honest lt normal within h =
    able_after (more_notices a (record { txn = k.txn; node = from }) h)
    (λ h1. ready_able (with_notice a k.txn from) n k st step honest lt has (unready_unbegun a k has unready h) within h1)
brings_able a n from m r b first st (an_answer dependency waiter commit k has same unmet unready) step honest lt normal within h =
    able_after (more_met a (record { waiter = k.txn; dependency = dependency }) h)
    (λ h1. ready_able (with_met a k.txn dependency) n k st step honest lt has (unready_unbegun a k has unready h) within h1)

pub keeps_part_able : {top : TopologyValue} {me : ℕ} {last : ShardState} {es : Seen} (a : ShardState) (n : ℕ) (k : KeptPart)
    → is_known k.txn a ≡ false → a.clock < n → IsNormal k.rows → Holds top me last es a
    → Able top me last es a (answer n (with_kept_part a k) (envelope me (shard_node top (dc_of top me) k.coordinator) n (body.Notify k.txn)))
keeps_part_able {top = top} {me = me} a n k e lt normal h =
    able_after (keep_part a k normal (unknown_unled k.txn a e) h)
    (λ h1. answer_able (with_kept_part a k) n (envelope me (shard_node top (dc_of top me) k.coordinator) n (body.Notify k.txn)) (omega (arith, lt)) tt h1)
