-- What a shard sends at an event and which reads wait after it, kind by kind; and that no message moves its horizon.
use Rattle.std.proofs.Common.{◌≡◌, sym, subst, refl, ℕ, inl, inr, Bool, true, false, not, List, [], ◌∷◌, ◌++◌, map, Option, Some, None}
use Rattle.std.specs.Prelude.{filter, if◌then◌else◌, nat_le, Contains}
use Rattle.std.specs.List.{AllByRecursion}
use Rattle.std.proofs.lemmas.List.Elements.{Contains-push_cases}
use Rattle.logical_time.specs.Stamps.{StampValue, TxnValue, WriterValue}
use Rattle.column_family.specs.declared.batch.Change.{Change}
use Rattle.slice.specs.declared.read.Read.{Read}
use Rattle.planner.proofs.Members.{map_contains}
use Rattle.store.proofs.lists.Lists.{kept_only}
use Rattle.messages.specs.declared.rows_at.AtTime.TheVariants as at
use Rattle.messages.specs.declared.body.Body.{Body}
use Rattle.messages.specs.declared.body.Body.TheVariants as body
use Rattle.messages.specs.declared.envelope.Envelope.{Envelope}
use Rattle.messages.specs.Topology.{TopologyValue, dc_of, shard_of, shard_node}
use Rattle.messages.specs.Words.{is_same_txn, envelope, other_dcs}
use Rattle.messages.specs.Shard.{ShardState, ShardStep, Role, Own, Cohort, Replica, PreparedPart, BegunBallot, KeptBallot, Asker, WaitingRead, quiet}
use Rattle.messages.specs.Rows.{row_now, row_at}
use Rattle.messages.specs.Reads.{part_at, check_of, is_waiting, waiting_read, without, lessened, is_free, let_go}
use Rattle.messages.specs.Commits.{applied_part, commits, stamp_for, announcements, dep_oks, decide, with_vote, repl_parts, apply_part}
use Rattle.messages.specs.Replication.{ballot_of, dep_checks, with_ballot, with_notice, with_met}
use Rattle.messages.specs.ShardEvents.{handled}
use Rattle.shard.proofs.lists.Lists.{each_joined, each_mapped}
use Rattle.shard.proofs.steps.HandledCases.{IsTelling, begun, replicated, with_early, with_asker, the_ballot, a_notice, an_answer, ReadyStep, misses, alone, asks, StepOf, still, begin_decides, begin_holds, prepares, vote_decides, vote_counts, vote_early, applies, lets_go, tells_commit, tells_none, reads_now, reads_collected, reads_at, waits, readies, notice_early, keeps_part, prepares_replica, tells_decided, remembers, handled_cases}

-- what holds of each kind of envelope that answers neither a read nor a check, and hands on no commit
pub record Plain (top : TopologyValue) (me n : ℕ) (P : Envelope → Type 0) : Type 0 where
  pub yes : (shard : ℕ) (t : TxnValue) → P (envelope me (shard_node top (dc_of top me) shard) n (body.Yes t))
  pub commit : (shard : ℕ) (t : TxnValue) (stamp : StampValue) → P (envelope me (shard_node top (dc_of top me) shard) n (body.Commit t n stamp))
  pub done : (t : TxnValue) (stamp : StampValue) → P (envelope me t.session n (body.Done t n stamp))
  pub repl_begin : (dc : ℕ) (t : TxnValue) (rows : List Change) (stamp : StampValue) (cohorts : List ℕ) (dependencies : List WriterValue)
      → P (envelope me (shard_node top dc (shard_of top me)) n (body.ReplBegin cohorts t rows stamp dependencies))
  pub notify : (shard : ℕ) (t : TxnValue) → P (envelope me (shard_node top (dc_of top me) shard) n (body.Notify t))
  pub prepare_remote : (shard : ℕ) (t : TxnValue) → P (envelope me (shard_node top (dc_of top me) shard) n (body.PrepareRemote t))
  pub dep_check : (shard : ℕ) (dependency waiter : TxnValue) → P (envelope me (shard_node top (dc_of top me) shard) n (body.DepCheck dependency waiter))
  pub dep_ok : (to : ℕ) (dependency waiter : TxnValue) (commit : ℕ) → P (envelope me to n (body.DepOk dependency waiter commit))
  pub check : (shard : ℕ) (t : TxnValue) (time : ℕ) → P (envelope me (shard_node top (dc_of top me) shard) n (body.Check t time))

-- What holds of each envelope that answers this message or hands on its stamp, of each read that waits, and of each answer to such a read from the
-- state after the step.
pub record Answering (top : TopologyValue) (me n : ℕ) (a : ShardState) (from : ℕ) (m : Body) (P : Envelope → Type 0) (W : WaitingRead → Type 0) : Type 0 where
  pub plain : Plain top me n P
  pub less : (y : WaitingRead) (left : List TxnValue) → W y → W (record y { left = left })
  pub old : (y : WaitingRead) → Contains a.waiting y → W y
  pub asked : (number time : ℕ) (read : Read) (left : List WriterValue) → m ≡ body.ReadAt number time read → is_waiting a from number ≡ false
      → W (waiting_read from number time read left)
  pub answers : (y : WaitingRead) → W y → P (part_at me n (handled top me n a from m).state y)
  pub now : (number : ℕ) (read : Read) → m ≡ body.Read number read → P (envelope me from n (body.PartNow number (map (row_now n a read) read.keys)))
  pub at : (t : TxnValue) (time commit : ℕ) (stamp : StampValue) → m ≡ body.Check t time → P (envelope me from n (body.At t commit stamp))
  pub not_by : (t : TxnValue) (time : ℕ) → m ≡ body.Check t time → P (envelope me from n (body.NotBy t time))
  pub repl_part : (dc : ℕ) (t : TxnValue) (rows : List Change) (commit : ℕ) (stamp : StampValue) (coordinator : ℕ) → IsTelling m t commit stamp
      → P (envelope me (shard_node top dc (shard_of top me)) n (body.ReplPart t rows stamp coordinator))

-- the step moves the clock to this and leaves the horizon; each envelope that it sends has the one property, each read that
-- waits after it the other
pub record Gives (n before : ℕ) (P : Envelope → Type 0) (W : WaitingRead → Type 0) (st : ShardStep) : Type 0 where
  pub clock : st.state.clock ≡ n
  pub low : st.state.low ≡ before
  pub sends : AllByRecursion P st.sends
  pub waiting : (y : WaitingRead) → Contains st.state.waiting y → W y

module _ (top : TopologyValue) (me n : ℕ) (P : Envelope → Type 0) (W : WaitingRead → Type 0) (k : Plain top me n P)
    (less : (y : WaitingRead) (left : List TxnValue) → W y → W (record y { left = left })) where
  abbrev Old : ShardState → Type 0
  Old a = (y : WaitingRead) → Contains a.waiting y → W y

  -- a read that waits is answered so from this state
  abbrev Answers : ShardState → Type 0
  Answers b = (y : WaitingRead) → W y → P (part_at me n b y)

  calm : (a : ShardState) → Old a → Gives n a.low P W (quiet n a)
  calm a old = record { clock = refl; low = refl; sends = tt; waiting = old }

  -- one envelope is sent, and the clock moves
  one : (a : ShardState) (e : Envelope) → Old a → P e → Gives n a.low P W (record { state = record a { clock = n }; sends = e ∷ [] })
  one a e old p = record { clock = refl; low = refl; sends = (p, tt); waiting = old }

  -- ## Reads are let go

  lessened_has : (t : TxnValue) (p : WaitingRead → Bool) (ws : List WaitingRead) → ((y : WaitingRead) → Contains ws y → W y)
      → (x : WaitingRead) → Contains (lessened t p ws) x → W x
  lessened_has t p ws old x has =
      let at = map_contains (λ (y : WaitingRead). if p y then record y { left = without t y.left } else y) ws x has in
      subst W at.2 (go at.0 (p at.0) (old at.0 at.1))
    where
      go : (y : WaitingRead) (b : Bool) → W y → W (if b then record y { left = without t y.left } else y)
      go y true h = less y (without t y.left) h
      go y false h = h

  let_go_gives : (a : ShardState) (t : TxnValue) (p : WaitingRead → Bool) (sends : List Envelope) → Old a → Answers (let_go me n a t p sends).state
      → AllByRecursion P sends → Gives n a.low P W (let_go me n a t p sends)
  let_go_gives a t p sends old answers plain =
      let all = lessened t p a.waiting in
      record {
        clock = refl;
        low = refl;
        sends =
            each_joined P sends (map (part_at me n a) (filter is_free all)) plain
            (each_mapped P (part_at me n a) (filter is_free all)
            (λ x has. answers x (lessened_has t p a.waiting old x (kept_only is_free all x has).0)));
        waiting = λ y has. lessened_has t p a.waiting old y (kept_only (λ (x : WaitingRead). not (is_free x)) all y has).0;
      }

  announced : (b : BegunBallot) (o : Option StampValue) → AllByRecursion P (announcements top me n b o)
  announced b None = (
    k.done b.txn (stamp_for me n None),
    each_mapped P
        (λ d. envelope me (shard_node top d (shard_of top me)) n (body.ReplBegin b.cohorts b.txn b.rows (stamp_for me n None) b.dependencies))
        (other_dcs top me)
        (λ d has. k.repl_begin d b.txn b.rows (stamp_for me n None) b.cohorts b.dependencies),
  )
  announced b (Some stamp) = tt

  decide_gives : (a : ShardState) (b : BegunBallot) → Old a → Answers (decide top me n a b).state → Gives n a.low P W (decide top me n a b)
  decide_gives a b old answers =
      let stamp = stamp_for me n b.stamp in
      let_go_gives
      (record a {
        decided = a.decided ++ record { txn = b.txn; commit = n; stamp = stamp_for me n b.stamp } ∷ [];
        applied = a.applied ++ applied_part b.txn (shard_of top me) b.rows n (stamp_for me n b.stamp) ∷ [];
      })
      b.txn (λ x. true) (commits top me n b.txn (stamp_for me n b.stamp) b.cohorts ++ announcements top me n b b.stamp ++ dep_oks me n b.txn a.askers)
      old answers
      (each_joined P (commits top me n b.txn (stamp_for me n b.stamp) b.cohorts ++ announcements top me n b b.stamp) (dep_oks me n b.txn a.askers)
      (each_joined P (commits top me n b.txn (stamp_for me n b.stamp) b.cohorts) (announcements top me n b b.stamp)
      (each_mapped P (λ s. envelope me (shard_node top (dc_of top me) s) n (body.Commit b.txn n (stamp_for me n b.stamp))) b.cohorts
      (λ s has. k.commit s b.txn stamp))
      (announced b b.stamp))
      (each_mapped P (λ (x : Asker). envelope me x.from n (body.DepOk b.txn x.waiter n)) (filter (λ x. is_same_txn x.dependency b.txn) a.askers)
      (λ x has. k.dep_ok x.from b.txn x.waiter n)))

  -- ## A part is applied

  -- what the parts of a transaction, handed on with this stamp, have
  abbrev Copied : TxnValue → StampValue → Type 0
  Copied t stamp =
      (dc : ℕ) (rows : List Change) (coordinator : ℕ) → P (envelope me (shard_node top dc (shard_of top me)) n (body.ReplPart t rows stamp coordinator))

  copies : (role : Role) (p : PreparedPart) (stamp : StampValue) → Copied p.txn stamp → AllByRecursion P (repl_parts role top me n p stamp)
  copies Own p stamp copied = tt
  copies Cohort p stamp copied =
      each_mapped P (λ d. envelope me (shard_node top d (shard_of top me)) n (body.ReplPart p.txn p.rows stamp p.coordinator)) (other_dcs top me)
      (λ d has. copied d p.rows p.coordinator)
  copies Replica p stamp copied = tt

  apply_gives : (a : ShardState) (t : TxnValue) (p : PreparedPart) (commit : ℕ) (stamp : StampValue) → p.txn ≡ t → Old a → Copied t stamp
      → Answers (apply_part top me n a p commit stamp).state → Gives n a.low P W (apply_part top me n a p commit stamp)
  apply_gives a t p commit stamp own old copied answers =
      let_go_gives (record a { applied = a.applied ++ applied_part p.txn p.coordinator p.rows commit stamp ∷ [] }) p.txn (λ x. true)
      (repl_parts p.role top me n p stamp) old answers (copies p.role p stamp (subst (λ u. Copied u stamp) (sym own) copied))

  -- ## Every case

  ready_gives : (a : ShardState) (r : KeptBallot) (st : ShardStep) → ReadyStep top me n a r st → Old a → Answers st.state → Gives n a.low P W st
  ready_gives a r st (misses is) old answers = calm a old
  ready_gives a r st (alone is none) old answers = decide_gives a (ballot_of r) old answers
  ready_gives a r st (asks is c cs some) old answers =
      record {
        clock = refl;
        low = refl;
        sends =
            each_mapped P (λ s. envelope me (shard_node top (dc_of top me) s) n (body.PrepareRemote r.txn)) (c ∷ cs)
            (λ s has. k.prepare_remote s r.txn);
        waiting = old;
      }

  checks : (r : KeptBallot) → AllByRecursion P (dep_checks top me n r)
  checks r =
      each_mapped P (λ (w : WriterValue). envelope me (shard_node top (dc_of top me) w.shard) n (body.DepCheck w.txn r.txn)) r.dependencies
      (λ w has. k.dep_check w.shard w.txn r.txn)

  step_gives : (a : ShardState) (from : ℕ) (m : Body) (st : ShardStep) → StepOf top me n a from m st → Answers st.state → Answering top me n a from m P W
      → Gives n a.low P W st
  step_gives a from m st (still none) answers c = calm a c.old
  step_gives a from m st (begin_decides t rows cohorts dependencies new all) answers c = decide_gives a (begun t rows cohorts dependencies) c.old answers
  step_gives a from m st (begin_holds t rows cohorts dependencies new some) answers c = record { clock = refl; low = refl; sends = tt; waiting = c.old }
  step_gives a from m st (prepares t rows coordinator new) answers c =
      record { clock = refl; low = refl; sends = (k.yes coordinator t, tt); waiting = c.old }
  step_gives a from m st (vote_decides t b is awaited all) answers c = decide_gives (with_vote a b.txn from) b c.old answers
  step_gives a from m st (vote_counts t b is awaited some) answers c = calm (with_vote a b.txn from) c.old
  step_gives a from m st (vote_early t none new first) answers c = calm (with_early a t from) c.old
  step_gives a from m st (applies t commit stamp tells p has is theirs new) answers c =
      apply_gives a t p commit stamp is c.old (λ dc rows coordinator. c.repl_part dc t rows commit stamp coordinator tells) answers
  step_gives a from m st (lets_go t time) answers c = let_go_gives a t (λ x. nat_le x.time time) [] c.old answers tt
  step_gives a from m st (tells_commit t time d has is) answers c =
      one a (envelope me from n (body.At t d.commit d.stamp)) c.old (c.at t time d.commit d.stamp refl)
  step_gives a from m st (tells_none t time is) answers c = one a (envelope me from n (body.NotBy t time)) c.old (c.not_by t time refl)
  step_gives a from m st (reads_now number read) answers c =
      one a (envelope me from n (body.PartNow number (map (row_now n a read) read.keys))) c.old (c.now number read refl)
  step_gives a from m st (reads_collected number time read new below) answers c =
      one a (envelope me from n (body.PartAt number time at.Collected)) c.old
      (subst (λ b. P (envelope me from n (body.PartAt number time (if b then at.Collected else at.Rows (map (row_at time a read) read.keys))))) below
      (answers (waiting_read from number time read []) (c.asked number time read [] refl new)))
  step_gives a from m st (reads_at number time read new above none) answers c =
      let x = waiting_read from number time read [] in one a (part_at me n a x) c.old (answers x (c.asked number time read [] refl new))
  step_gives a from m st (waits number time read new above w ws some) answers c =
      record {
        clock = refl;
        low = refl;
        sends = each_mapped P (check_of top me n time) (w ∷ ws) (λ z has. k.check z.shard z.txn time);
        waiting = λ y has. elim (Contains-push_cases a.waiting (waiting_read from number time read (w ∷ ws)) y has) [
          | inl there ↦ c.old y there
          | inr own ↦ subst W own (c.asked number time read (w ∷ ws) refl new)
        ];
      }
  step_gives a from m st (readies (the_ballot t rows stamp cohorts dependencies new) step) answers c =
      let r = replicated t rows stamp cohorts dependencies in
      let g = ready_gives (with_ballot a r) r _ step c.old answers in
      record { clock = g.clock; low = g.low; sends = each_joined P (dep_checks top me n r) _ (checks r) g.sends; waiting = g.waiting }
  step_gives a from m st (readies (a_notice t r has is awaited unready) step) answers c = ready_gives (with_notice a r.txn from) r _ step c.old answers
  step_gives a from m st (readies (an_answer dependency waiter commit r has is unmet unready) step) answers c =
      ready_gives (with_met a r.txn dependency) r _ step c.old answers
  step_gives a from m st (notice_early t none new first) answers c = calm (with_notice a t from) c.old
  step_gives a from m st (keeps_part t rows stamp coordinator new) answers c =
      record { clock = refl; low = refl; sends = (k.notify coordinator t, tt); waiting = c.old }
  step_gives a from m st (prepares_replica t p has is new) answers c =
      record { clock = refl; low = refl; sends = (k.yes p.coordinator p.txn, tt); waiting = c.old }
  step_gives a from m st (tells_decided dependency waiter d has is) answers c =
      one a (envelope me from n (body.DepOk dependency waiter d.commit)) c.old (k.dep_ok from dependency waiter d.commit)
  step_gives a from m st (remembers dependency waiter none new) answers c = calm (with_asker a dependency waiter from) c.old

-- what each message gives
pub handled_gives : (top : TopologyValue) (me n : ℕ) (a : ShardState) (from : ℕ) (m : Body) (P : Envelope → Type 0) (W : WaitingRead → Type 0)
    → Answering top me n a from m P W → Gives n a.low P W (handled top me n a from m)
handled_gives top me n a from m P W c =
    step_gives top me n P W c.plain c.less a from m (handled top me n a from m) (handled_cases top me n a from m) c.answers c
