use Rattle.std.proofs.Common.{◌≡◌, ◌+◌, length, eqb, refl, ap, rules}
use Rattle.keeper.proofs.Logs.{stands_more}
use Rattle.keeper.proofs.log.Log.note.Goals as goal

pub returns-clause-ok : goal.returns-clause-ok
returns-clause-ok g c = λ kept noted s.
    let mark : c.len-mark.result ≡ length c.args.self.now.pending.items = search rules in
    let place : c.in-Some.place ≡ c.args.self.now.end + length c.args.self.now.pending.items = search rules in
    stands_more g.D.Disk.seen g.D.Disk.may_leave c.args.self.now
    (record { disk = c.args.self.now.disk; secret = c.args.self.now.secret; end = c.args.self.now.end; pending = c.write_record.new.out })
    c.in-Some.place (eqb c.len-mark.result 0) c.args.body.now kept noted refl refl refl place (ap (λ n. eqb n 0) mark) c.requires c.in_ok-write_record.ensures.ok s
