use Rattle.std.proofs.Common.{rules}
use Rattle.messages.proofs.posting.PostingPost.notice.Goals as goal

pub returns-clause-told : goal.returns-clause-told
returns-clause-told c = search rules
