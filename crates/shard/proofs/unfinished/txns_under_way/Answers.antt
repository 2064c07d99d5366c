use Rattle.std.proofs.Common.{rules, ◌≡◌, ◌∙◌, sym, ap, subst, true, cond, ◌+◌, ◌++◌, ◌∷◌, [], take, Contains, List}
use Rattle.std.specs.Ordering.{is_eq}
use Rattle.std.specs.List.{list_any}
use Rattle.std.proofs.lemmas.List.{take_more, take_all}
use Rattle.logical_time.specs.Stamps.{TxnValue, txn_cmp}
use Rattle.write_txn.specs.declared.open.Open.{Open}
use Rattle.shard.proofs.under_way.TxnsListed.{listed_more, placed}
use Rattle.shard.proofs.unfinished.txns_under_way.Goals as goal

pub loop-open-preserved : goal.loop-open-preserved
loop-open-preserved c =
    let i = c.loop-open.open-index in
    let os = c.as_slice-open-items.result.now in
    let before = c.loop-open.txns.keys in
    let after = c.insert.new.self.keys in
    let e : take (i + 1) os ≡ take i os ++ c.open-item.result ∷ [] = take_more os i c.open-item.result c.loop-open-test.true ∙ ap (λ (o : Open). take i os ++ o ∷ []) (sym c.open-item.is) in
    record {
      listed = rw e (listed_more (take i os) c.open-item.result before after
          (λ t. subst (λ (u : TxnValue). list_any (λ v. is_eq (txn_cmp t v)) after ≡ cond (is_eq (txn_cmp u t)) true (list_any (λ v. is_eq (txn_cmp t v)) before)) c.txn.ensures (c.in_ok-insert.ensures.updates.0 t))
          c.loop-open.invariant.listed);
      ordered = c.in_ok-insert.ensures.ordered;
    }

pub returns-clause-all : goal.returns-clause-all
returns-clause-all c = λ t held is.
    let os = c.as_slice-open-items.result.now in
    let all : take c.loop-open.open-index os ≡ os = take_all c.loop-open.open-index os (search rules) in
    c.loop-open.invariant.listed held (subst (λ (xs : List Open). Contains xs held) (sym all) (placed os held (c.as_slice-open-items.ensures.all t held is)))
