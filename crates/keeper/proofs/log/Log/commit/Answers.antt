use Rattle.std.proofs.Common.{◌≡◌, ◌∙◌, ◌+◌, ◌++◌, List, ℕ, Some, length, ap, rules}
use Rattle.std.specs.Prelude.{option_map}
use Rattle.disk.specs.Disk.{IsBeginning, Only}
use Rattle.records.specs.Records.{spelled}
use Rattle.keeper.specs.Log.{Survives}
use Rattle.keeper.proofs.Moments.{from_some, started, weaker, itself}
use Rattle.keeper.proofs.Logs.{nothing_waits, all_kept, survives}
use Rattle.keeper.proofs.log.Log.commit.Goals as goal

pub returns-then-has_failed-clause-any_moment : goal.returns-then-has_failed-clause-any_moment
returns-then-has_failed-clause-any_moment g c = λ kept noted s.
    started g.D.Disk.moment g.D.Disk.left_since c.args.self.now.disk (Survives c.args.self.now.secret kept noted)
    (λ z left. survives c.args.self.now.secret kept noted z s.is_kept.fit s.fit s.front (itself (spelled c.args.self.now.secret 0 kept) z (s.is_kept.durable z (g.met.D.Disk.only_now c.args.self.now.disk z left))))

pub returns-then-is_empty-clause-settled : goal.returns-then-is_empty-clause-settled
returns-then-is_empty-clause-settled g c = λ kept noted s.
    let none : length c.args.self.now.pending.items ≡ 0 = search rules in
    nothing_waits g.D.Disk.seen g.D.Disk.may_leave c.args.self.now kept noted none s

pub returns-then-is_empty-clause-any_moment : goal.returns-then-is_empty-clause-any_moment
returns-then-is_empty-clause-any_moment g c = λ kept noted s.
    started g.D.Disk.moment g.D.Disk.left_since c.args.self.now.disk (Survives c.args.self.now.secret kept noted)
    (λ z left. survives c.args.self.now.secret kept noted z s.is_kept.fit s.fit s.front (itself (spelled c.args.self.now.secret 0 kept) z (s.is_kept.durable z (g.met.D.Disk.only_now c.args.self.now.disk z left))))

pub returns-in_default-clause-any_moment : goal.returns-in_default-clause-any_moment
returns-in_default-clause-any_moment g c = λ kept noted s.
    started g.D.Disk.moment g.D.Disk.left_since c.args.self.now.disk (Survives c.args.self.now.secret kept noted)
    (λ z left. survives c.args.self.now.secret kept noted z s.is_kept.fit s.fit s.front (itself (spelled c.args.self.now.secret 0 kept) z (s.is_kept.durable z (g.met.D.Disk.only_now c.args.self.now.disk z left))))

pub returns-in_err-put-clause-any_moment : goal.returns-in_err-put-clause-any_moment
returns-in_err-put-clause-any_moment g c = λ kept noted s.
    weaker g.D.Disk.moment g.D.Disk.left_since c.args.self.now.disk c.put.new.disk (IsBeginning (spelled c.args.self.now.secret 0 kept)) (Survives c.args.self.now.secret kept noted)
    (from_some (g.D.Disk.seen c.args.self.now.disk) _ (spelled c.args.self.now.secret 0 kept) s.is_kept.file c.put.ensures.any_moment s.is_kept.durable)
    (λ z begins. survives c.args.self.now.secret kept noted z s.is_kept.fit s.fit s.front begins)

pub returns-clause-settled : goal.returns-clause-settled
returns-clause-settled g c = λ kept noted s.
    let b = c.args.self.now.pending.items in
    let k = s.is_kept in
    let file = spelled c.args.self.now.secret 0 kept in
    let told : g.D.Disk.seen c.put.new.disk ≡ Some (file ++ b) =
    c.in_ok-put.ensures.seen ∙ ap (option_map (λ (t : List ℕ). t ++ b)) k.file in
    let here = g.D.Disk.may_leave c.put.new.disk in
    let only : Only (file ++ b) here =
    from_some (g.D.Disk.seen c.args.self.now.disk) (λ (t : List ℕ). Only (t ++ b) here) file k.file c.in_ok-put.ensures.durable in
    let longer : c.in-Some.end ≡ c.args.self.now.end + length b = search rules in
    record {
      is_kept = all_kept g.D.Disk.seen g.D.Disk.may_leave c.put.new.disk c.args.self.now.secret c.args.self.now.end c.in-Some.end c.args.self.now.disk b kept noted k s.pending s.fit longer told only;
      pending = c.clear.ensures.items;
      fit = tt;
      front = tt;
    }

pub returns-clause-any_moment : goal.returns-clause-any_moment
returns-clause-any_moment g c = λ kept noted s.
    weaker g.D.Disk.moment g.D.Disk.left_since c.args.self.now.disk c.put.new.disk (IsBeginning (spelled c.args.self.now.secret 0 kept)) (Survives c.args.self.now.secret kept noted)
    (from_some (g.D.Disk.seen c.args.self.now.disk) _ (spelled c.args.self.now.secret 0 kept) s.is_kept.file c.put.ensures.any_moment s.is_kept.durable)
    (λ z begins. survives c.args.self.now.secret kept noted z s.is_kept.fit s.fit s.front begins)
