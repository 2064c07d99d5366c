use Rattle.peers.proofs.Streams.{one_list}
use Rattle.peers.proofs.law.frames_are_one_list.Goals as goal

pub returns : goal.returns
returns c = λ bodies others rest more fit fits e. one_list bodies others rest more fit fits e
