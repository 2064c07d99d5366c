use Rattle.std.proofs.Common.{rules, ◌≡◌, ◌≤◌, ◌+◌, ◌∙◌, ap, sym, refl, true, false, arith}
use Rattle.std.specs.Prelude.{if◌then◌else◌, slice_get}
use Rattle.versions.specs.Chain.{Held, put_of}
use Rattle.store.specs.Stored.{column_held, name_cmp, nothing_held}
use Rattle.store.specs.Sight.{evt_or_0}
use Rattle.store.proofs.times.Latest.{latest_put}
use Rattle.store.proofs.lists.Maps.{each_column, found}
use Rattle.store.proofs.newest.Places.{same_bytes}
use Rattle.store.proofs.row.put_column.Goals as goal

pub returns-in-Some-clause-versions : goal.returns-in-Some-clause-versions
returns-in-Some-clause-versions c =
    let h = c.get_mut.follows.holds c.put-more.new.self in
    let f = found name_cmp nothing_held c.args.columns.now c.args.name.now c.in-Some.chain.now (search rules) in
    each_column (λ b x y. y.versions ≡ (if b then put_of x.versions c.args.version else x.versions)) c.args.columns.now (c.get_mut.follows.lender c.put-more.new.self) c.args.name.now c.put-more.new.self (h.3 (search rules)) (rw f (search rules)) (λ x. refl)

pub returns-in-Some-clause-room : goal.returns-in-Some-clause-room
returns-in-Some-clause-room c =
    let h = c.get_mut.follows.holds c.put-more.new.self in
    let f = found name_cmp nothing_held c.args.columns.now c.args.name.now c.in-Some.chain.now (search rules) in
    each_column (λ b x y. x.room ≤ y.room + (if b then 1 else 0)) c.args.columns.now (c.get_mut.follows.lender c.put-more.new.self) c.args.name.now c.put-more.new.self (h.3 (search rules)) (rw f (search rules)) (λ x. omega arith)

pub returns-in-Some-clause-latest : goal.returns-in-Some-clause-latest
returns-in-Some-clause-latest c = λ is.
    let w = c.put-more.new.self in
    let h = c.get_mut.follows.holds w in
    let k = c.args.name.now in
    let olds = c.args.columns.now in
    let news = c.get_mut.follows.lender w in
    let f = found name_cmp nothing_held olds k c.in-Some.chain.now (search rules) in
    let there : column_held news.entries k ≡ w = each_column (λ b x y. b ≡ true → y ≡ w) olds news k w (h.3 (search rules)) (λ e. refl) (λ x e. absurd (cc)) k (same_bytes k) in
    latest_put olds.entries news.entries k c.args.latest.now c.latest_after.result c.newest_evt-before.result c.newest_evt.result
    (c.newest_evt-before.ensures ∙ ap (λ (x : Held). evt_or_0 (slice_get x.versions 0)) (c.as_chain.ensures ∙ sym f))
    (c.newest_evt.ensures ∙ ap (λ (x : Held). evt_or_0 (slice_get x.versions 0)) (c.as_chain-in-Some.ensures ∙ sym there))
    (each_column (λ b x y. b ≡ false → evt_or_0 (slice_get y.versions 0) ≡ evt_or_0 (slice_get x.versions 0)) olds news k w (h.3 (search rules)) (λ e. absurd (cc)) (λ x e. refl))
    c.latest_after.ensures is
