use Rattle.sites_file.proofs.Homes.{homes_more}
use Rattle.sites_file.proofs.reading.homes_of.Goals as goal

pub loop-dc-preserved : goal.loop-dc-preserved
loop-dc-preserved c =
    let more = homes_more c.args.sites.now c.loop-dc.dc c.index-sites-dc.result c.loop-dc-test.true in
    rw (more, ← c.loop-dc.invariant) c.in_ok-put_home.ensures.put
