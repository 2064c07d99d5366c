use Rattle.std.proofs.Common.{◌≡◌, ◌∙◌, Err, refl, rules}
use Rattle.logfile.specs.declared.error.LogError.TheVariants.{Head}
use Rattle.logfile.specs.declared.error.Unopened.TheVariants.{Log}
use Rattle.logfile.proofs.Files.{begins}
use Rattle.site_folder.specs.declared.error.Unreturned.TheVariants.{Folder}
use Rattle.site_folder.proofs.Returned.{returned, headless, stuck}
use Rattle.site_folder.proofs.opening.reopen_site.Goals as goal

pub returns-in_err-head-clause-refused : goal.returns-in_err-head-clause-refused
returns-in_err-head-clause-refused g c =
    let same : c.from_residual.result ≡ Err (Folder (Log (Head c.in_err-head.field-0.0))) = search rules in
    headless g.M.Machine.refuses c.args.identity c.args.topology.now c.bytes.result.now c.args.opened.bytes.items c.in_err-head.field-0.0 c.from_residual.result same c.bytes.ensures c.in_err-head.ensures.refused

pub returns-then-not-is_of-clause-refused : goal.returns-then-not-is_of-clause-refused
returns-then-not-is_of-clause-refused g c =
    let head = c.in_ok-head.head in
    (head.secret, begins c.args.opened.bytes.items c.bytes.result.now head.topology head.secret head.length c.bytes.ensures c.in_ok-head.ensures.begins, c.if-not-is_of.ensures.no refl)

pub returns-in-Ok-clause-back : goal.returns-in-Ok-clause-back
returns-in-Ok-clause-back g c =
    let head = c.in_ok-head.head in
    let e = c.in-Ok.ensures in
    returned _ _ _ _ _ c.args.opened.bytes.items c.bytes.result.now c.deref.result.now c.args.topology.now head.topology head.secret head.length c.args.identity c.in-Ok.found.0 c.in-Ok.found.1.heard.items c.in-Ok.found.1.met.items c.in_ok-disk.disk
    c.bytes.ensures c.in_ok-head.ensures.begins c.in_ok-head.ensures.length (c.if-not-is_of.ensures.yes refl) (c.deref.ensures.value ∙ c.in_ok-disk.ensures.bytes)
    e.back e.heard e.met e.opened e.undamaged e.comes_back c.in_ok-disk.ensures.works c.in_ok-disk.ensures.untouched

pub returns-clause-refused : goal.returns-clause-refused
returns-clause-refused g c =
    let head = c.in_ok-head.head in
    stuck g.M.Machine.refuses c.args.identity c.args.opened.bytes.items c.bytes.result.now c.deref.result.now c.args.topology.now head.topology head.secret head.length _ c.in-Err.error
    c.bytes.ensures c.in_ok-head.ensures.begins c.in_ok-head.ensures.length (c.if-not-is_of.ensures.yes refl) (c.deref.ensures.value ∙ c.in_ok-disk.ensures.bytes) c.in-Err.ensures.refused
