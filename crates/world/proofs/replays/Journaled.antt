-- The histories, outcomes and operations of a run are those that its journals give.
use Rattle.std.proofs.Common.{◌≡◌, ◌∙◌, ℕ, zero, suc, ◌<◌, sym, ap, refl, Bool, true, false, List, [], ◌∷◌, ◌++◌, Option, Some, None}
use Rattle.std.specs.Prelude.{if◌then◌else◌, filter_map, flat_map, option_map, option_and_then, slice_get, Contains}
use Rattle.std.specs.List.{range_with_len}
use Rattle.logical_time.specs.Stamps.{TxnValue}
use Rattle.column_family.specs.declared.batch.Change.{Change}
use Rattle.messages.specs.declared.op.Op.{Op}
use Rattle.messages.specs.Topology.{TopologyValue, is_shard, is_session, shard_node, node_count}
use Rattle.messages.proofs.Numbering.{shard_is_shard}
use Rattle.messages.specs.declared.event.ActorEvent.{ActorEvent}
use Rattle.messages.specs.Actors.{OfShard, OfSession, replay_of}
use Rattle.world.specs.Run.{Run, RunEvent, Submission, run, submission_of}
use Rattle.world.specs.Histories.{batch_in, batch_submitted, committed_of}
use Rattle.world.specs.Journals.{held_in, journal_in, IsRunOf}
use Rattle.world.specs.Threads.{op_numbered, decided_of, decided_in, decided_by, batch_by, committed_by, IsToldByJournals}
use Rattle.world.proofs.envelopes.Near.{listed_below}
use Rattle.world.proofs.steps.Moves.{shard_node_counts, session_node_counts}
use Rattle.world.proofs.replays.JournalSteps.{same_told}
use Rattle.world.proofs.replays.OwnJournals.{run_journals}
use Rattle.world.proofs.steps.Counted.{ops_of}
use Rattle.world.proofs.replays.Numbered.{AreNumbered, run_numbered}
use Rattle.world.proofs.lists.Members.{contains_first, contains_rest}

same_flat : {X Y : Type 0} (f g : X → List Y) (xs : List X) → ((x : X) → Contains xs x → f x ≡ g x) → flat_map f xs ≡ flat_map g xs
same_flat f g [] e = refl
same_flat f g (x ∷ xs) e = ap (λ l. l ++ flat_map f xs) (e x (contains_first x xs)) ∙ ap (λ l. g x ++ l) (same_flat f g xs (λ y m. e y (contains_rest x y xs m)))

module _ (top : TopologyValue) (journals : ℕ → List ActorEvent) (events : List RunEvent) (some : 0 < top.shards) (is : IsRunOf top journals events) where
  abbrev w : Run
  w = run top events

  -- the replay of a journal ends in the actor of the run
  replayed_there : (node : ℕ) → node < node_count top → replay_of top node (journals node) ≡ Some (held_in top w node)
  replayed_there node lt = ap (replay_of top node) (sym (is.each node lt)) ∙ (run_journals top events some).each node

  decided_there : (node : ℕ) → is_shard top node ≡ true → (w.shards node).decided ≡ decided_by top journals node
  decided_there node here =
      sym (ap decided_in (replayed_there node (shard_node_counts top node here))
      ∙ ap (λ b. decided_of (if b then OfShard (w.shards node) else OfSession (w.sessions node))) here)

  batch_there : (t : TxnValue) → batch_submitted w t ≡ batch_by top journals t
  batch_there t = inside (submission_of w.submitted t) ∙ ap (option_and_then batch_in) (k.ops t) ∙ by (is_session top t.session) refl
    where
      k : AreNumbered top w
      k = run_numbered top events

      inside : (o : Option Submission) → option_and_then (λ (s : Submission). batch_in s.op) o ≡ option_and_then batch_in (option_map (λ (s : Submission). s.op) o)
      inside None = refl
      inside (Some s) = refl

      none : (n : ℕ) → ops_of (journal_in w t.session) ≡ [] → option_and_then batch_in (op_numbered (journal_in w t.session) n) ≡ None
      none zero e = refl
      none (suc n) e = ap (λ (l : List Op). option_and_then batch_in (slice_get l n)) e

      by : (b : Bool) → is_session top t.session ≡ b
          → option_and_then batch_in (op_numbered (journal_in w t.session) t.number) ≡ (if b then option_and_then batch_in (op_numbered (journals t.session) t.number) else None)
      by true q = ap (λ l. option_and_then batch_in (op_numbered l t.number)) (is.each t.session (session_node_counts top t.session q))
      by false q = none t.number (k.quiet t.session q)

  pub operation_there : (b : Submission) → Contains w.submitted b → op_numbered (journals b.session) b.number ≡ Some b.op
  operation_there b has =
      let h = (run_numbered top events).named b has in
      ap (λ l. op_numbered l b.number) (sym (is.each b.session (session_node_counts top b.session h.0))) ∙ h.1

  pub told_by_journals : IsToldByJournals top journals w
  told_by_journals =
      record {
        actors = replayed_there;
        history = λ dc lt.
            ap (filter_map (committed_of w))
            (same_flat (λ s. (w.shards (shard_node top dc s)).decided) (λ s. decided_by top journals (shard_node top dc s)) (range_with_len 0 top.shards)
            (λ s m. decided_there (shard_node top dc s) (shard_is_shard top dc s lt (listed_below top.shards s m))))
            ∙ same_told (committed_of w) (committed_by top journals) (flat_map (λ s. decided_by top journals (shard_node top dc s)) (range_with_len 0 top.shards))
            (λ d m. ap (λ o. option_map (λ (batch : List Change). record { batch = batch; stamp = d.stamp; commit = d.commit }) o) (batch_there d.txn));
        operations = λ t here. (run_numbered top events).ops t ∙ ap (λ l. op_numbered l t.number) (is.each t.session (session_node_counts top t.session here));
      }
