-- What a ballot that is kept and a part that is prepared leave under way.
use Rattle.std.proofs.Common.{◌≡◌, ℕ, List, [], ◌++◌, None, ◌⊎◌, inl, inr, refl, sym, ap, ◌∙◌, subst}
use Rattle.std.specs.Prelude.{Contains}
use Rattle.logical_time.specs.Stamps.{TxnValue, WriterValue}
use Rattle.column_family.specs.declared.batch.Change.{Change}
use Rattle.messages.specs.declared.envelope.Envelope.{Envelope}
use Rattle.messages.specs.Topology.{TopologyValue, shard_of}
use Rattle.messages.specs.Shard.{ShardState, Role, Own, PreparedPart, BegunBallot, Vote, KeptBallot}
use Rattle.messages.specs.Commits.{hold, prepare_part}
use Rattle.world.specs.Run.{Run}
use Rattle.world.proofs.lists.Members.{contains_first, contains_one, Contains-push, last_or_old, Contains-append_left, Contains-append_right, Contains-append_cases}
use Rattle.world.proofs.safety.Facts.{near}
use Rattle.world.proofs.envelopes.About.{OfYes, OfPrepareRemote, Sent}
use Rattle.world.proofs.under_way.Underway.{HasPrepared, HasBallot, HasDecision, Knows, vote_of, met_of, Away, RoleLive, PreparedLive, BallotLive, Entries, EarlyCounted, Voted, ShardLive, SaysLive}
use Rattle.world.proofs.under_way.LiveSteps.{Here, Fine, Left}

-- ## A ballot is kept

module _ (top : TopologyValue) (x : Run) (node n : ℕ) (a : ShardState) (b : BegunBallot) (counted : List Vote) (sends : List Envelope)
    (entries : Entries top x node a) (once : EarlyCounted a)
    (here : Here x node (hold top node n a b counted sends))
    (from : (b.stamp ≡ None) ⊎ (Away top x node b.txn × ((c : ℕ) → Contains b.cohorts c → Sent x.sent node (near top node c) (OfPrepareRemote b.txn))))
    (of : (v : Vote) → Contains counted v → v.txn ≡ b.txn)
    (early : b.stamp ≡ None → (v : Vote) → Contains a.early v → v.txn ≡ b.txn → Contains counted v)
    (missing : ((c : ℕ) → Contains b.cohorts c → Contains (a.votes ++ counted) (vote_of b.txn (near top node c))) → ⊥) where
  abbrev own : PreparedPart
  own = record { txn = b.txn; rows = b.rows; coordinator = shard_of top node; time = n; role = Own }

  has_ballot : HasBallot (x.shards node) b.txn
  has_ballot = subst (λ z. HasBallot z b.txn) (sym here.state) (b, Contains-push a.ballots b, refl)

  pub hold_known : HasPrepared (x.shards node) b.txn
  hold_known = subst (λ z. HasPrepared z b.txn) (sym here.state) (own, Contains-push a.prepared own, refl)

  hold_entries : Entries top x node (hold top node n a b counted sends).state
  hold_entries =
      let e = entries in
      let known = hold_known in
      let ballot = has_ballot in
      record {
        prepared = λ p m. elim (last_or_old p own a.prepared m) [ inl o ↦ e.prepared p o | inr q ↦ subst (λ z. PreparedLive top x node z) (sym q) ballot ];
        ballots = λ u m. elim (last_or_old u b a.ballots m) [ inl o ↦ e.ballots u o | inr q ↦ subst (λ z. BallotLive top x node z) (sym q) (known, from) ];
        kept_parts = e.kept_parts;
        kept_ballots = e.kept_ballots;
        early = e.early;
        votes = λ v m. elim (Contains-append_cases a.votes counted v m) [ inl o ↦ e.votes v o | inr c ↦ subst (λ t. HasBallot (x.shards node) t) (sym (of v c)) ballot ];
        notices = e.notices;
        decided = e.decided;
        applied = e.applied;
        askers = e.askers;
        told = e.told;
      }

  hold_counted : EarlyCounted (hold top node n a b counted sends).state
  hold_counted u v m s i q =
      elim (last_or_old u b a.ballots m) [
        | inl o ↦ Contains-append_left a.votes counted v (once u v o s i q)
        | inr z ↦ Contains-append_right a.votes counted v (early (ap (λ (y : BegunBallot). y.stamp) (sym z) ∙ s) v i (q ∙ ap (λ (y : BegunBallot). y.txn) z))
      ]

  hold_voted : ((u : BegunBallot) → Contains a.ballots u → ((c : ℕ) → Contains u.cohorts c → Contains (a.votes ++ counted) (vote_of u.txn (near top node c))) → HasDecision a u.txn) → Voted top node (hold top node n a b counted sends).state
  hold_voted old u m f =
      elim (last_or_old u b a.ballots m) [
        | inl o ↦ old u o f
        | inr q ↦ absurd (missing (subst (λ (z : BegunBallot). (c : ℕ) → Contains z.cohorts c → Contains (a.votes ++ counted) (vote_of z.txn (near top node c))) q f))
      ]

  pub hold_left : ((u : BegunBallot) → Contains a.ballots u → ((c : ℕ) → Contains u.cohorts c → Contains (a.votes ++ counted) (vote_of u.txn (near top node c))) → HasDecision a u.txn)
      → ((r : KeptBallot) → Contains a.kept_ballots r → ((c : ℕ) → Contains r.cohorts c → Contains a.notices (vote_of r.txn (near top node c)))
      → ((k : WriterValue) → Contains r.dependencies k → Contains a.met (met_of r.txn k.txn)) → Knows a r.txn ⊎ (r.txn ≡ b.txn))
      → ((e : Envelope) → Contains sends e → Fine top x e)
      → Left top x node (hold top node n a b counted sends)
  hold_left old g fine =
      record {
        live =
            record {
              entries = hold_entries;
              counted = hold_counted;
              voted = hold_voted old;
              ready = λ r m i j. elim (g r m i j) [
                | inl (inl q) ↦ inl (q.0, Contains-append_left a.prepared _ q.0 q.1, q.2)
                | inl (inr q) ↦ inr (q.0, q.1, q.2)
                | inr q ↦ inl (own, Contains-push a.prepared own, sym q)
              ];
            };
        sends = fine;
      }

-- ## A part is prepared

pub prepare_left : (top : TopologyValue) (x : Run) (node n : ℕ) (a : ShardState) (t : TxnValue) (rows : List Change) (c : ℕ) (role : Role) → ShardLive top x node a
    → (Sent x.sent node (near top node c) (OfYes t) → RoleLive role x node (near top node c) t) → SaysLive top x node (near top node c) (OfYes t)
    → Here x node (prepare_part top node n a t rows c role)
    → Left top x node (prepare_part top node n a t rows c role) × Knows (x.shards node) t
prepare_left top x node n a t rows c role k live says here =
    let e = k.entries in
    let p : PreparedPart = record { txn = t; rows = rows; coordinator = c; time = n; role = role } in
    let new : PreparedLive top x node p = live (record { message = _; among = here.sent _ (contains_first _ []); by = refl; for = refl; is = refl }) in (
      record {
        live =
            record {
              entries =
                  record {
                    prepared = λ g m. elim (last_or_old g p a.prepared m) [ inl o ↦ e.prepared g o | inr q ↦ subst (λ z. PreparedLive top x node z) (sym q) new ];
                    ballots = e.ballots;
                    kept_parts = e.kept_parts;
                    kept_ballots = e.kept_ballots;
                    early = e.early;
                    votes = e.votes;
                    notices = e.notices;
                    decided = e.decided;
                    applied = e.applied;
                    askers = e.askers;
                    told = e.told;
                  };
              counted = k.counted;
              voted = k.voted;
              ready = λ r m f g. elim (k.ready r m f g) [ inl q ↦ inl (q.0, Contains-append_left a.prepared _ q.0 q.1, q.2) | inr q ↦ inr q ];
            };
        sends = λ u m. subst (λ z. Fine top x z) (sym (contains_one _ u m)) says;
      },
      inl (subst (λ z. HasPrepared z t) (sym here.state) (p, Contains-push a.prepared p, refl)),
    )
