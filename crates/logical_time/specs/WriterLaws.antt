-- The order of writers is one.
use Rattle.std.specs.Cmp.{IsTotalOrder, on_total, then_total, nat_cmp_total}
use Rattle.logical_time.specs.Stamps.{TxnValue, WriterValue, txn_cmp, writer_cmp}

txn_total : IsTotalOrder txn_cmp
txn_total = then_total (on_total (λ (t : TxnValue). t.session) nat_cmp_total) (on_total (λ (t : TxnValue). t.number) nat_cmp_total)

pub writer_total : IsTotalOrder writer_cmp
writer_total = then_total (on_total (λ (w : WriterValue). w.txn) txn_total) (on_total (λ (w : WriterValue). w.shard) nat_cmp_total)
