use Rattle.std.proofs.Common.{refl, inl, inr, rules}
use Rattle.readiness.specs.declared.connection.TheConstants.{LIMIT}
use Rattle.readiness.proofs.Halves.{written-same, turns-written, stopped_of, rests_of}
use Rattle.readiness.proofs.places.turns.Goals as goal

pub returns-in_err-settle-clause-turned : goal.returns-in_err-settle-clause-turned
returns-in_err-settle-clause-turned g c = turns-written g.L.ReadyLine.seen g.P.SharedPort.steps c.args.places.now.places.items (g.P.SharedPort.seen c.args.port.now) c.listen_all.new.places.places.items (g.P.SharedPort.seen c.listen_all.new.port) c.listen_all.new.places.places.items (g.P.SharedPort.seen c.settle.new.self) c.listen_all.ensures.turned c.settle.ensures.asks_nothing (written-same g.L.ReadyLine.seen c.listen_all.new.places.places.items c.listen_all.new.places.places.items refl)

pub returns-in_err-reply_all-clause-turned : goal.returns-in_err-reply_all-clause-turned
returns-in_err-reply_all-clause-turned g c = turns-written g.L.ReadyLine.seen g.P.SharedPort.steps c.args.places.now.places.items (g.P.SharedPort.seen c.args.port.now) c.listen_all.new.places.places.items (g.P.SharedPort.seen c.listen_all.new.port) c.reply_all.new.places.places.items (g.P.SharedPort.seen c.settle.new.self) c.listen_all.ensures.turned c.settle.ensures.asks_nothing c.reply_all.ensures.written

pub returns-clause-turned : goal.returns-clause-turned
returns-clause-turned g c = turns-written g.L.ReadyLine.seen g.P.SharedPort.steps c.args.places.now.places.items (g.P.SharedPort.seen c.args.port.now) c.listen_all.new.places.places.items (g.P.SharedPort.seen c.listen_all.new.port) c.reply_all.new.places.places.items (g.P.SharedPort.seen c.settle.new.self) c.listen_all.ensures.turned c.settle.ensures.asks_nothing c.reply_all.ensures.written

pub returns-clause-rests : goal.returns-clause-rests
returns-clause-rests g c =
    rests_of LIMIT g.L.ReadyLine.seen c.args.ready.now c.reply_all.new.again.items c.reply_all.new.over.items c.args.places.now.places.items c.listen_all.new.places.places.items c.reply_all.new.places.places.items c.listen_all.ensures.heard
    (c.in_ok-reply_all.ensures.told (stopped_of g.L.ReadyLine.seen c.args.ready.now c.args.places.now.places.items c.listen_all.new.places.places.items c.listen_all.ensures.heard))

pub returns-in_err-settle-clause-settled : goal.returns-in_err-settle-clause-settled
returns-in_err-settle-clause-settled g c = (c.listen_all.new.port, c.listen_all.ensures.keeps_none, inr (c.in_err-settle.field-0.0, c.in_err-settle.ensures.settled, c.listen_all.ensures.silent, search rules))

pub returns-in_err-reply_all-clause-settled : goal.returns-in_err-reply_all-clause-settled
returns-in_err-reply_all-clause-settled g c = (c.listen_all.new.port, c.listen_all.ensures.keeps_none, inl c.in_ok-settle.ensures.settled)

pub returns-clause-settled : goal.returns-clause-settled
returns-clause-settled g c = (c.listen_all.new.port, c.listen_all.ensures.keeps_none, inl c.in_ok-settle.ensures.settled)

pub returns-clause-bounded : goal.returns-clause-bounded
returns-clause-bounded g c h = c.reply_all.ensures.bounded (c.listen_all.ensures.bounded h)
