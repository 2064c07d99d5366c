use Rattle.std.proofs.Common.{◌≡◌, ◌∙◌, ◌^◌, ◌<◌, arith}
use Rattle.wire.proofs.Written.{commit_fits, commit_text}
use Rattle.wire.proofs.writing.put_commit.Goals as goal

pub returns : goal.returns
returns c =
    let time : c.get-time.result ≡ c.args.stamp.time = c.get-time.ensures.value ∙ c.time.ensures in
    let node : c.get-node.result ≡ c.args.stamp.node = c.get-node.ensures ∙ c.node.ensures in
    let a : c.args.commit < 2 ^ 48 = omega (arith, c.get.ensures.value, c.get.ensures.below) in
    let b : c.args.stamp.time < 2 ^ 48 = omega (arith, time, c.get-time.ensures.below) in
    let d : c.args.stamp.node < 2 ^ 16 = omega (arith, node, c.get-node.type_inv) in (
      commit_fits c.args.commit c.args.stamp a b d,
      commit_text c.args.out.now.items c.put_u64.new.self.items c.put_u64-2.new.self.items c.put_u16.new.self.items c.get.result c.get-time.result c.get-node.result c.args.commit c.args.stamp
          c.in_ok-put_u64.ensures.ok c.in_ok-put_u64-2.ensures.ok c.in_ok-put_u16.ensures.ok c.get.ensures.value time node,
    )
