use Rattle.hosting.proofs.node.Node.new.Goals as goal

pub returns-in-Ok-clause-free : goal.returns-in-Ok-clause-free
returns-in-Ok-clause-free g c = rw c.with_longest.ensures c.in-Ok.ensures.free

pub returns-in-Ok-clause-sound : goal.returns-in-Ok-clause-sound
returns-in-Ok-clause-sound g c = rw c.with_longest.ensures (record { noted = c.in-Ok.ensures.sound.noted; known = c.in-Ok.ensures.sound.known; on = c.in-Ok.ensures.sound.on })
