use Rattle.std.proofs.Common.{◌∙◌, ap, List, ℕ}
use Rattle.hello.specs.Mac.{hmac}
use Rattle.hello.specs.Meeting.{proof_message}
use Rattle.hello.proofs.Meetings.{proof_parts}
use Rattle.hello.proofs.secret.Secret.proof.Goals as goal

pub returns : goal.returns
returns c =
    c.hmac_sha256.ensures
    ∙ ap (λ (m : List ℕ). hmac c.deref.result.now m) (proof_parts c.args.role c.args.connecting.now c.args.accepting.now c.byte.result c.write.result c.write-2.result c.byte.ensures c.write.ensures.written c.write-2.ensures.written)
    ∙ ap (λ (k : List ℕ). hmac k (proof_message c.args.role c.args.connecting.now c.args.accepting.now)) (c.deref.ensures.value ∙ c.self.view_is)
