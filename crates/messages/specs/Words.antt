-- Transactions, lists in order, and envelopes.
use Rattle.std.specs.Prelude.{ℕ, Bool, List, [], ◌∷◌, not, filter, ◌==◌}
use Rattle.std.specs.List.{range_with_len}
use Rattle.std.specs.declared.cmp.Ordering.{Ordering}
use Rattle.std.specs.declared.cmp.Ordering.TheVariants.{Less, Equal, Greater}
use Rattle.std.specs.Ordering.{is_eq}
use Rattle.logical_time.specs.Stamps.{TxnValue, txn_cmp, WriterValue, writer_cmp}
use Rattle.messages.specs.declared.body.Body.{Body}
use Rattle.messages.specs.declared.envelope.Envelope.{Envelope}
use Rattle.messages.specs.Topology.{TopologyValue, dc_of}

abbrev pub is_same_txn : TxnValue → TxnValue → Bool
is_same_txn t u = is_eq (txn_cmp t u)

abbrev pub placed_writer : Ordering → WriterValue → WriterValue → List WriterValue → List WriterValue → List WriterValue
placed_writer Less w x xs others = w ∷ x ∷ xs
placed_writer Equal w x xs others = x ∷ xs
placed_writer Greater w x xs others = x ∷ others

-- a writer put among writers that stand in order, each once
abbrev pub with_writer : WriterValue → List WriterValue → List WriterValue
with_writer w [] = w ∷ []
with_writer w (x ∷ xs) = placed_writer (writer_cmp w x) w x xs (with_writer w xs)

-- writers in the order of their transactions' numbers, each once
abbrev pub in_writer_order : List WriterValue → List WriterValue
in_writer_order [] = []
in_writer_order (w ∷ ws) = with_writer w (in_writer_order ws)

abbrev pub envelope : ℕ → ℕ → ℕ → Body → Envelope
envelope from to time body = record { from = from; to = to; time = time; body = body }

-- the data centres beside that of this shard, ascending
abbrev pub other_dcs : TopologyValue → ℕ → List ℕ
other_dcs top me = filter (λ d. not (d == dc_of top me)) (range_with_len 0 top.dcs)
