-- Worked runs of one shard whose envelopes are honest, and those whose envelopes are honest but for one clause.
use Rattle.std.proofs.Common.{◌≡◌, ◌∙◌, sym, ap, subst, refl, ℕ, suc, ◌<◌, ◌≤◌, Bool, true, false, List, []}
use Rattle.std.specs.Prelude.{◌≢◌}
use Rattle.std.specs.List.{AllByRecursion}
use Rattle.logical_time.specs.Stamps.{StampValue, TxnValue}
use Rattle.column_family.specs.Normal.{IsNormal}
use Rattle.column_family.proofs.Order.{normal_form}
use Rattle.messages.specs.declared.body.Body.{Body}
use Rattle.messages.specs.declared.body.Body.TheVariants as body
use Rattle.messages.specs.declared.envelope.Envelope.{Envelope}
use Rattle.messages.specs.Shard.{ShardState, PreparedPart}
use Rattle.messages.specs.Honest.{ToldCommit, StampedTxn, all_told, part_in, stamps_met, IsHonest}
use Rattle.shard.specs.Events.{envelopes_handled}
use Rattle.shard.specs.Worked.{key_a, key_b, x_gets, first_of, stamp, written_then_read, read_then_written, read_at_its_mark, collected_then_read, commit_at_its_mark, excluded_at_its_commit_time, read_above_its_time, two_of_one_stamp}
use Rattle.shard.specs.Lookalikes.{Clause, Marks, Exclusions, TimesOfReads, Stamps, IsHonestBut}
use Rattle.shard.proofs.lists.Lists.{no_truth, each_contained}
use Rattle.shard.proofs.worked.Closed.{below, not_more, differ}

-- ## What makes envelopes honest

abbrev time_asked : Body → ℕ
time_asked (body.ReadAt number time read) = time
time_asked other = 0

abbrev is_not_by : Body → Bool
is_not_by (body.NotBy t time) = true
is_not_by other = false

-- told with this stamp, at a commit time that the transaction gives, and not too early
abbrev IsToldAs : (TxnValue → ℕ) → StampValue → ToldCommit → Type 0
IsToldAs commit_of s x = (x.commit ≡ commit_of x.txn) × (x.stamp ≡ s) × (x.commit ≤ x.time)

-- the stamps that were met are of one transaction
abbrev AreOfOne : ShardState → List Envelope → Type 0
AreOfOne a es = (t : TxnValue) × AllByRecursion (λ x. x.txn ≡ t) (stamps_met a es)

honest_but : (c : Clause) (a : ShardState) (es : List Envelope) (commit_of : TxnValue → ℕ) (s : StampValue)
    → AllByRecursion (IsToldAs commit_of s) (all_told es)
    → (c ≢ Marks → AllByRecursion (λ p. p.time < commit_of p.txn) a.prepared)
    → (c ≢ Exclusions → AllByRecursion (λ e. is_not_by e.body ≡ false) es)
    → (c ≢ TimesOfReads → AllByRecursion (λ e. time_asked e.body ≤ e.time) es)
    → (c ≢ Stamps → AreOfOne a es)
    → AllByRecursion (λ e. IsNormal (part_in e.body)) es → IsHonestBut c a es
honest_but c a es commit_of s told marks exclusions times stamps parts =
    let each = each_contained (IsToldAs commit_of s) (all_told es) told in
    record {
      commit = λ x y hx hy same. (each x hx).0 ∙ ap commit_of same ∙ sym ((each y hy).0);
      stamp = λ x y hx hy same. (each x hx).1 ∙ sym ((each y hy).1);
      prepared = λ other x p hx hp same. (
          let lt = each_contained (λ (q : PreparedPart). q.time < commit_of q.txn) a.prepared (marks other) p hp in
          subst (λ n. p.time < n) (ap commit_of same ∙ sym ((each x hx).0)) lt);
      told = λ x hx. (each x hx).2;
      excluded = λ other x e time hx he is. absurd (no_truth (is_not_by e.body) (ap is_not_by is) (each_contained (λ (d : Envelope). is_not_by d.body ≡ false) es (exclusions other) e he));
      stamps = λ other x y hx hy same. (
          let one = stamps other in
          let each_one = each_contained (λ (z : StampedTxn). z.txn ≡ one.0) (stamps_met a es) one.1 in
          each_one x hx ∙ sym (each_one y hy));
      read = λ other e number time r he is. subst (λ n. n ≤ e.time) (ap time_asked is) (each_contained (λ (d : Envelope). time_asked d.body ≤ d.time) es (times other) e he);
      parts = each_contained (λ (e : Envelope). IsNormal (part_in e.body)) es parts;
    }

abbrev place : Clause → ℕ
place Marks = 0
place Exclusions = 1
place TimesOfReads = 2
place Stamps = 3

-- envelopes that are honest but for each clause are honest
honest : (a : ShardState) (es : List Envelope) → ((c : Clause) → IsHonestBut c a es) → IsHonest a es
honest a es all =
    let first = all Marks in
    record {
      commit = first.commit;
      stamp = first.stamp;
      prepared = (all Stamps).prepared (differ place Stamps Marks refl);
      told = first.told;
      excluded = first.excluded (differ place Marks Exclusions refl);
      stamps = first.stamps (differ place Marks Stamps refl);
      read = first.read (differ place Marks TimesOfReads refl);
      parts = first.parts;
    }

no_part : IsNormal []
no_part = normal_form []

-- ## Honest envelopes

pub honest_written : IsHonest written_then_read.state (envelopes_handled written_then_read)
honest_written =
    honest written_then_read.state (envelopes_handled written_then_read)
    (λ c. honest_but c written_then_read.state (envelopes_handled written_then_read) (λ t. 0) (stamp 0) tt (λ o. tt) (λ o. (refl, (refl, (refl, tt))))
    (λ o. (not_more 0 1 refl, (not_more 0 1 refl, (not_more 2 4 refl, tt)))) (λ o. (first_of 2, (refl, tt)))
    (normal_form (x_gets key_b 1), (no_part, (no_part, tt))))

pub honest_read : IsHonest read_then_written.state (envelopes_handled read_then_written)
honest_read =
    honest read_then_written.state (envelopes_handled read_then_written)
    (λ c. honest_but c read_then_written.state (envelopes_handled read_then_written) (λ t. 0) (stamp 0) tt (λ o. tt) (λ o. (refl, (refl, tt)))
    (λ o. (not_more 0 1 refl, (not_more 0 1 refl, tt))) (λ o. (first_of 2, (refl, tt))) (no_part, (normal_form (x_gets key_b 1), tt)))

pub honest_mark : IsHonest read_at_its_mark.state (envelopes_handled read_at_its_mark)
honest_mark =
    honest read_at_its_mark.state (envelopes_handled read_at_its_mark)
    (λ c. honest_but c read_at_its_mark.state (envelopes_handled read_at_its_mark) (λ t. 3) (stamp 3) ((refl, refl, not_more 3 3 refl), tt)
    (λ o. (below 2 3 refl, tt)) (λ o. (refl, (refl, (refl, tt))))
    (λ o. (not_more 0 1 refl, (not_more 2 2 refl, (not_more 0 3 refl, tt)))) (λ o. (first_of 2, (refl, tt)))
    (normal_form (x_gets key_a 1), (no_part, (no_part, tt))))

pub honest_collected : IsHonest collected_then_read.state (envelopes_handled collected_then_read)
honest_collected =
    honest collected_then_read.state (envelopes_handled collected_then_read)
    (λ c. honest_but c collected_then_read.state (envelopes_handled collected_then_read) (λ t. 0) (stamp 0) tt (λ o. tt) (λ o. (refl, tt))
    (λ o. (not_more 9 9 refl, tt)) (λ o. (first_of 2, tt)) (no_part, tt))

-- ## Envelopes that are honest but for one clause

pub but_for_marks : IsHonestBut Marks commit_at_its_mark.state (envelopes_handled commit_at_its_mark)
but_for_marks =
    honest_but Marks commit_at_its_mark.state (envelopes_handled commit_at_its_mark) (λ t. 2) (stamp 2) ((refl, refl, not_more 2 2 refl), tt)
    (λ o. absurd (o refl)) (λ o. (refl, (refl, (refl, tt)))) (λ o. (not_more 0 1 refl, (not_more 0 1 refl, (not_more 0 2 refl, tt))))
    (λ o. (first_of 2, (refl, tt))) (normal_form (x_gets key_a 1), (no_part, (no_part, tt)))

pub but_for_exclusions : IsHonestBut Exclusions excluded_at_its_commit_time.state (envelopes_handled excluded_at_its_commit_time)
but_for_exclusions =
    honest_but Exclusions excluded_at_its_commit_time.state (envelopes_handled excluded_at_its_commit_time) (λ t. 3) (stamp 3)
    ((refl, refl, not_more 3 4 refl), tt) (λ o. (below 2 3 refl, tt)) (λ o. absurd (o refl))
    (λ o. (not_more 0 1 refl, (not_more 3 3 refl, (not_more 0 4 refl, (not_more 0 4 refl, tt)))))
    (λ o. (first_of 2, (refl, tt))) (normal_form (x_gets key_a 1), (no_part, (no_part, (no_part, tt))))

pub but_for_times : IsHonestBut TimesOfReads read_above_its_time.state (envelopes_handled read_above_its_time)
but_for_times =
    honest_but TimesOfReads read_above_its_time.state (envelopes_handled read_above_its_time) (λ t. 0) (stamp 0) tt (λ o. tt) (λ o. (refl, (refl, tt)))
    (λ o. absurd (o refl)) (λ o. (first_of 2, (refl, tt))) (no_part, (normal_form (x_gets key_b 1), tt))

pub but_for_stamps : IsHonestBut Stamps two_of_one_stamp.state (envelopes_handled two_of_one_stamp)
but_for_stamps =
    honest_but Stamps two_of_one_stamp.state (envelopes_handled two_of_one_stamp) (λ t. suc t.session) (stamp 3)
    ((refl, refl, not_more 3 3 refl), ((refl, refl, not_more 4 4 refl), tt)) (λ o. (below 2 3 refl, (below 3 4 refl, tt)))
    (λ o. (refl, (refl, (refl, (refl, (refl, tt))))))
    (λ o. (not_more 0 1 refl, (not_more 0 1 refl, (not_more 0 3 refl, (not_more 0 4 refl, (not_more 0 5 refl, tt))))))
    (λ o. absurd (o refl)) (normal_form (x_gets key_a 1), (normal_form (x_gets key_a 2), (no_part, (no_part, (no_part, tt)))))
