-- Of each shard that a completed read asked, its session kept one answer of the first round.
use Rattle.std.proofs.Common.{◌≡◌, ◌∙◌, ℕ, ◌<◌, ap, sym, refl, subst, true, not, inl, inr, List, [], ◌∷◌, ◌++◌, slice_get, eqb-true, eq-eqb, append-nil}
use Rattle.std.specs.Prelude.{◌==◌, ◌⊎◌, Contains}
use Rattle.std.specs.List.{list_any}
use Rattle.std.proofs.lemmas.Bool.{false≢true, and_parts}
use Rattle.std.proofs.lemmas.List.{append_assoc}
use Rattle.slice.specs.declared.read.Read.{Read}
use Rattle.planner.specs.Plan.{shards_asked}
use Rattle.messages.specs.declared.op.Op.TheVariants as op
use Rattle.messages.specs.declared.body.Body.TheVariants.{PartNow}
use Rattle.messages.specs.declared.envelope.Envelope.{Envelope}
use Rattle.messages.specs.Topology.{TopologyValue, shard_node}
use Rattle.messages.specs.Session.{SessionState, HeardNow}
use Rattle.messages.specs.Submitting.{home_node}
use Rattle.messages.specs.Rounds.{was_heard, asked_nodes, is_missing, all_heard}
use Rattle.world.specs.Run.{Run, RunEvent, Deliver, Completed, opening, step, continued, run}
use Rattle.world.specs.Fresh.{IsKept, HasOneKept, FirstRoundsAreWhole}
use Rattle.world.proofs.lists.Members.{last_or_old, contains_map, any_found, any_has, all_have}
use Rattle.world.proofs.growing.Growth.{Grows}
use Rattle.world.proofs.safety.Invariant.{IsOpen, OpenSound, FirstSound, SecondSound, Inv}
use Rattle.world.proofs.growing.Prefixes.{one_begins, number_later, splits, accepted}
use Rattle.world.proofs.worked.Replayed.{runs_replayed}
use Rattle.world.proofs.safety.Runs.{every_run, run_after}
use Rattle.world.proofs.causal.CausalRuns.{every_causal}
use Rattle.world.proofs.fresh.HeardFirst.{HasHeard}
use Rattle.world.proofs.fresh.HeardRuns.{only_sessions, RunHeard, heard_later, kept_at, one_message}
use Rattle.world.proofs.fresh.FreshReads.{IsOf, open_of}
use Rattle.world.proofs.safety.Completions.{EndsBy, IsNotMoved, LastFirst, LastSecond, CameAt, came_at}
use Rattle.world.proofs.promised.Laws.{prefix_grows}
use Rattle.world.proofs.fresh.KeptAnswers.{HasKept, first_heard, kept_later, all_kept}

-- ## One answer of each shard

-- a shard whose answer was kept isn't missing any more
not_missing : (asked : List ℕ) (hs : List HeardNow) (h : HeardNow) (node : ℕ) → Contains hs h → h.from ≡ node → is_missing asked hs node ≡ true → ⊥
not_missing asked hs h node m from missing =
    let heard : was_heard hs node ≡ true = any_has (λ (z : HeardNow). z.from == node) hs h m (eq-eqb h.from node from) in
    let none = (and_parts (list_any (λ (z : ℕ). z == node) asked) (not (was_heard hs node)) missing).1 in
    false≢true (ap not (sym heard) ∙ none)

same_start : {X : Type 0} (xs : List X) (y z : X) (ys zs : List X) → xs ++ y ∷ ys ≡ xs ++ z ∷ zs → y ≡ z
same_start [] y z ys zs e = cc
same_start (x ∷ xs) y z ys zs e = let rest : xs ++ y ∷ ys ≡ xs ++ z ∷ zs = cc in same_start xs y z ys zs rest

next_is : {X : Type 0} (xs : List X) (y z : X) (ys more rest : List X) → xs ++ y ∷ ys ≡ (xs ++ z ∷ more) ++ rest → y ≡ z
next_is xs y z ys more rest e = same_start xs y z ys (more ++ rest) (e ∙ append_assoc xs (z ∷ more) rest)

module _ (top : TopologyValue) (some : 0 < top.shards) (w : Run) (replayed : run top w.events ≡ w) (session number : ℕ) where
  -- after an answer was kept, none of its shard is
  no_second : (k j : ℕ) (e f : Envelope) (first : IsKept top w session number k e) (second : IsKept top w session number j f) → e.from ≡ f.from
      → (z : RunEvent) (zs : List RunEvent) → second.before ≡ first.before ++ z ∷ zs → ⊥
  no_second k j e f first second same z zs split =
      let h : HeardNow = record { from = e.from; rows = first.rows } in
      let now = accepted top w replayed first.before (Deliver k) first.after first.delivery in
      let heard : RunHeard (step top (run top first.before) (Deliver k)) session number h =
      kept_at top w session number k e first (only_sessions top first.before) ((every_run top first.before some).sessions e.to).taken (every_causal top first.before some).closed
      (λ g is. one_message top w replayed first.before (Deliver k) first.after first.delivery k e g first.message is) now in
      let is : Deliver k ≡ z =
      next_is first.before (Deliver k) z first.after zs (Deliver j ∷ second.after)
      (sym first.delivery ∙ second.delivery ∙ ap (λ l. l ++ Deliver j ∷ second.after) split) in
      let there : continued top (step top (run top first.before) (Deliver k)) zs ≡ run top second.before =
      sym (run_after top (opening top) first.before (Deliver k ∷ zs)) ∙ ap (λ y. run top (first.before ++ y ∷ zs)) is ∙ ap (run top) (sym split) in
      let later : RunHeard (run top second.before) session number h =
      subst (λ (v : Run). RunHeard v session number h) there
      (heard_later top (step top (run top first.before) (Deliver k)) zs session number h heard) in
      let open_now = later.heard.current (sym second.count) in
      has_it second h (subst (λ o. HasHeard o h) second.first_round open_now) same
    where
      has_it : (second : IsKept top w session number j f) (h : HeardNow) → Contains second.heard h → h.from ≡ f.from → ⊥
      has_it second h m from =
          not_missing (asked_nodes top ((run top second.before).sessions session) second.read) second.heard h f.from m from second.missing

  one_delivery : (k j : ℕ) (e f : Envelope) (p : IsKept top w session number k e) (q : IsKept top w session number j f) → e.from ≡ f.from
      → (j ≡ k) × (q.before ≡ p.before)
  one_delivery k j e f p q same = by (one_begins p.before (Deliver k ∷ p.after) q.before (Deliver j ∷ q.after) (sym p.delivery ∙ q.delivery))
    where
      equal : q.before ≡ p.before → (j ≡ k) × (q.before ≡ p.before)
      equal i =
          let is : Deliver k ≡ Deliver j =
          same_start p.before (Deliver k) (Deliver j) p.after q.after (sym p.delivery ∙ q.delivery ∙ ap (λ l. l ++ Deliver j ∷ q.after) i) in
          (cc, i)

      by : ((zs : List RunEvent) × (q.before ≡ p.before ++ zs)) ⊎ ((zs : List RunEvent) × (p.before ≡ q.before ++ zs)) → (j ≡ k) × (q.before ≡ p.before)
      by (inl ([], i)) = equal (i ∙ append-nil p.before)
      by (inl (z ∷ zs, i)) = absurd (no_second k j e f p q same z zs i)
      by (inr ([], i)) = equal (sym (append-nil q.before) ∙ sym i)
      by (inr (z ∷ zs, i)) = absurd (no_second j k f e q p (sym same) z zs i)

  one_kept : (shard : ℕ) → HasKept top w session number shard → HasOneKept top w session number shard
  one_kept shard h =
      record {
        k = h.k;
        e = h.e;
        kept = h.kept;
        from = h.from;
        one = λ j f other from. one_delivery h.k j h.e f h.kept other (h.from ∙ sym from);
      }

-- ## Completed reads

module _ (top : TopologyValue) (some : 0 < top.shards) (w : Run) (replayed : run top w.events ≡ w) (inv : Inv top w) (c : Completed) (there : Contains w.transcript c)
    (came : CameAt top w c) where
  abbrev u : Run
  u = run top came.before

  abbrev s : SessionState
  s = u.sessions c.node

  -- what was kept by then is kept in the whole run
  to_end : (shard : ℕ) → HasKept top u c.node s.count shard → HasKept top w c.node c.number shard
  to_end shard h =
      let whole : continued top u (Deliver came.brings.k ∷ came.after) ≡ w =
      splits top w replayed came.before (Deliver came.brings.k) came.after came.delivery in
      record {
        k = h.k;
        e = h.e;
        kept =
            subst (λ (v : Run). IsKept top v c.node c.number h.k h.e) whole
            (kept_later top u (Deliver came.brings.k ∷ came.after) c.node c.number h.k h.e
            (subst (λ m. IsKept top u c.node m h.k h.e) came.brings.count h.kept));
        from = h.from;
      }

  -- the last answer was kept at its delivery
  last_kept : (k : LastFirst top s came.brings.message.from came.brings.message.body) → HasKept top w c.node c.number came.brings.message.from
  last_kept k =
      let whole : continued top u (Deliver came.brings.k ∷ came.after) ≡ w =
      splits top w replayed came.before (Deliver came.brings.k) came.after came.delivery in
      record {
        k = came.brings.k;
        e = came.brings.message;
        kept =
            record {
              before = came.before;
              after = came.after;
              delivery = came.delivery;
              message =
                  ap (λ (z : Run). slice_get z.sent came.brings.k) (sym whole)
                  ∙ number_later top u (Deliver came.brings.k ∷ came.after) came.brings.k came.brings.message came.brings.number;
              address = came.brings.to;
              rows = k.rows;
              body = k.answer.body ∙ ap (λ m. PartNow m k.rows) came.brings.count;
              count = came.brings.count;
              read = k.read;
              heard = k.heard;
              first_round = k.answer.current;
              missing = k.answer.missing;
            };
        from = refl;
      }

  own : (read : Read) → IsOpen u c.node s.count s.home (op.Read read) → IsOf top w c s read
  own read is =
      open_of top u w c s read inv
      (subst (λ z. Grows top u z) (ap (run top) (sym came.delivery) ∙ replayed) (prefix_grows top came.before (Deliver came.brings.k ∷ came.after) some))
      there came.brings.count is

  -- a shard that the read asked is among those that its session asked
  asked_there : (read mine : Read) → IsOf top w c s mine → c.op ≡ op.Read read → (shard : ℕ) → Contains (shards_asked top.shards read.keys) shard
      → Contains (asked_nodes top s mine) (shard_node top c.home shard)
  asked_there read mine is own shard has =
      let both : op.Read mine ≡ op.Read read = sym is.op ∙ own in
      let same : mine ≡ read = cc in
      subst (λ dc. Contains (asked_nodes top s mine) (shard_node top dc shard)) (sym is.home)
      (subst (λ (r : Read). Contains (asked_nodes top s r) (home_node top s shard)) (sym same)
      (contains_map (home_node top s) (shards_asked top.shards read.keys) shard has))

  -- its answer was heard
  heard_one : (asked : List ℕ) (hs : List HeardNow) (node : ℕ) → all_heard asked hs ≡ true → Contains asked node → (h : HeardNow) × Contains hs h × (h.from ≡ node)
  heard_one asked hs node all m =
      let r = any_found (λ (z : HeardNow). z.from == node) hs (all_have (was_heard hs) asked node all m) in
      (r.0, r.1, eqb-true r.0.from node r.2)

  each_kept : (read : Read) → c.op ≡ op.Read read → LastFirst top s came.brings.message.from came.brings.message.body ⊎ LastSecond top s came.brings.message.from came.brings.message.body
      → (shard : ℕ) → Contains (shards_asked top.shards read.keys) shard → HasKept top w c.node c.number (shard_node top c.home shard)
  each_kept read is (inl k) shard has =
      let first : FirstSound top u c.node s k.read k.heard =
      subst (λ o. OpenSound top u c.node s o) k.answer.current ((every_run top came.before some).sessions c.node).current in
      let one = heard_one (asked_nodes top s k.read) (k.heard ++ record { from = came.brings.message.from; rows = k.rows } ∷ []) (shard_node top c.home shard) k.all
      (asked_there read k.read (own k.read first.opened) is shard has) in
      subst (HasKept top w c.node c.number) one.2
      (elim (last_or_old one.0 (record { from = came.brings.message.from; rows = k.rows }) k.heard one.1) [
        | inl old ↦ to_end one.0.from (all_kept top came.before c.node one.0 (subst (λ o. Contains (first_heard o) one.0) (sym k.answer.current) old))
        | inr q ↦ subst (λ (z : HeardNow). HasKept top w c.node c.number z.from) (sym q) (last_kept k)
      ])
  each_kept read is (inr k) shard has =
      let second : SecondSound top u c.node s k.read k.time k.first k.heard =
      subst (λ o. OpenSound top u c.node s o) k.answer.current ((every_run top came.before some).sessions c.node).current in
      let one = heard_one (asked_nodes top s k.read) k.first (shard_node top c.home shard) second.all
      (asked_there read k.read (own k.read second.opened) is shard has) in
      subst (HasKept top w c.node c.number) one.2
      (to_end one.0.from (all_kept top came.before c.node one.0 (subst (λ o. Contains (first_heard o) one.0) (sym k.answer.current) one.1)))

pub first_rounds_are_whole : (top : TopologyValue) (events : List RunEvent) → 0 < top.shards → FirstRoundsAreWhole top (run top events)
first_rounds_are_whole top events some c read time answer shard has is end asked =
    let w = run top events in
    let replayed = runs_replayed top events in
    let there = has in
    let came = came_at top w some replayed c (subst IsNotMoved (sym end) tt) there in
    one_kept top some w replayed c.node c.number (shard_node top c.home shard)
    (each_kept top some w replayed (every_run top events some) c there came read is
    (subst (λ o. EndsBy o top ((run top came.before).sessions c.node) came.brings.message.from came.brings.message.body) end came.brings.ends) shard asked)
