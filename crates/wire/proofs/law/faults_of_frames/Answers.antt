use Rattle.wire.proofs.Faults.{front_fault}
use Rattle.wire.proofs.law.faults_of_frames.Goals as goal

pub returns : goal.returns
returns c = front_fault
