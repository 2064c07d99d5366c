use Rattle.std.proofs.Common.{◌≡◌, ℕ, List, subst}
use Rattle.disk.specs.Disk.{LeavesOnly}
use Rattle.records.specs.Records.{Entry as Record, recovered, views}
use Rattle.keeper.specs.Log.{IsAsBefore}
use Rattle.keeper.specs.declared.recovery.RecoveryError.TheVariants.{Damaged}
use Rattle.keeper.proofs.Moments.{from_some}
use Rattle.durable_site.specs.Logged.{whose_of}
use Rattle.durable_site.specs.Stuck.{ComesBack}
use Rattle.durable_site.proofs.Opened.{opened, came_back, unrecovered, one_recovery}
use Rattle.durable_site.proofs.opening.open.Goals as goal

pub returns-in-Err-clause-refused : goal.returns-in-Err-clause-refused
returns-in-Err-clause-refused g c =
    unrecovered g.M.Machine.refuses c.args.topology.now c.args.identity c.args.secret c.args.bytes.now (g.D.Disk.failed c.recover.new.disk) (g.D.Disk.seen c.args.disk) c.in-Err.error c.requires.seen c.in-Err.ensures.fails (λ at is. (c.in-Err.ensures.damaged at is).1)

pub returns-in-Err-clause-damaged : goal.returns-in-Err-clause-damaged
returns-in-Err-clause-damaged g c = λ at is. (c.in-Err.ensures.damaged at (one_recovery c.in-Err.error (Damaged at) is)).0

pub returns-in-Ok-resume-clause-opened : goal.returns-in-Ok-resume-clause-opened
returns-in-Ok-resume-clause-opened g c =
    let k = g.D.Disk in
    let disk = c.args.disk in
    let bytes = c.args.bytes.now in
    let found = views c.in-Ok.found.0.items in
    let first = from_some (k.seen disk) (λ (s : List ℕ). LeavesOnly k.moment k.left_since disk c.recover.new.disk (IsAsBefore c.args.secret s)) bytes c.requires.seen c.in-Ok.ensures.any_moment in
    let same = from_some (k.seen disk) (λ (s : List ℕ). found ≡ recovered c.args.secret 0 0 s) bytes c.requires.seen c.in-Ok.ensures.records in
    opened k.seen k.may_leave k.failed k.moment k.left_since c.args.secret disk c.recover.new.disk c.over.result c.resume.new.log bytes found (whose_of c.args.identity) c.over.ensures.is first same c.resume.ensures.any_moment
    c.in-Ok-resume.identity c.in-Ok-resume.site c.resume.ensures.secret c.in-Ok-resume.ensures.settled c.in-Ok.ensures.works c.in-Ok-resume.ensures.works

pub returns-in-Ok-resume-clause-comes_back : goal.returns-in-Ok-resume-clause-comes_back
returns-in-Ok-resume-clause-comes_back g c =
    let top = c.args.topology.now in
    let mine = c.args.identity in
    let i = c.in-Ok-resume.identity in
    let site = c.in-Ok-resume.site in
    let bytes = c.args.bytes.now in
    let same = from_some (g.D.Disk.seen c.args.disk) (λ (s : List ℕ). views c.in-Ok.found.0.items ≡ recovered c.args.secret 0 0 s) bytes c.requires.seen c.in-Ok.ensures.records in
    came_back c.texts_are_of_one_entry.ensures top mine c.args.secret bytes i site (subst (λ (rs : List Record). ComesBack top mine rs i site) same c.in-Ok-resume.ensures.back)
