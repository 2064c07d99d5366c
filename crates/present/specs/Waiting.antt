-- What waits, by how it is kept.
use Rattle.std.specs.Prelude.{List, ◌++◌, reverse, option_to_list}
use Rattle.messages.specs.declared.envelope.Envelope.{Envelope}
use Rattle.present.specs.declared.waiting.Waiting.{Waiting}

-- first what was put back, then those whose turn it is, the next one last, then what was sent since
abbrev pub waiting_of : Waiting → List Envelope
waiting_of w = option_to_list w.held ++ reverse w.turn.items ++ w.sent.sent
