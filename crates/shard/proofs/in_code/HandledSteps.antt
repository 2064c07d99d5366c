-- What a shard hears of the bodies that only move its clock.
use Rattle.std.proofs.Common.{◌≡◌, refl, ℕ, false}
use Rattle.logical_time.specs.Stamps.{StampValue, TxnValue}
use Rattle.slice.specs.declared.read.Read.{Read}
use Rattle.messages.specs.declared.body.Body.{Body}
use Rattle.messages.specs.declared.body.Body.TheVariants as body
use Rattle.messages.specs.Topology.{TopologyValue}
use Rattle.messages.specs.Shard.{ShardState, quiet}
use Rattle.messages.specs.ShardEvents.{handled}
use Rattle.shard.specs.Handled.{is_handed_over}

-- a body that isn't handed over, nor one of those that a shard hears, only moves the clock
pub unheard : (top : TopologyValue) (me n : ℕ) (a : ShardState) (from : ℕ) (b : Body) → is_handed_over b ≡ false
    → ((t : TxnValue) → b ≡ body.Yes t → ⊥)
    → ((t : TxnValue) (commit : ℕ) (stamp : StampValue) → b ≡ body.Commit t commit stamp → ⊥)
    → ((t : TxnValue) (commit : ℕ) (stamp : StampValue) → b ≡ body.At t commit stamp → ⊥)
    → ((t : TxnValue) (time : ℕ) → b ≡ body.NotBy t time → ⊥)
    → ((t : TxnValue) (time : ℕ) → b ≡ body.Check t time → ⊥)
    → ((number : ℕ) (read : Read) → b ≡ body.Read number read → ⊥)
    → ((t : TxnValue) → b ≡ body.Notify t → ⊥)
    → ((t : TxnValue) → b ≡ body.PrepareRemote t → ⊥)
    → ((dependency waiter : TxnValue) → b ≡ body.DepCheck dependency waiter → ⊥)
    → ((dependency waiter : TxnValue) (commit : ℕ) → b ≡ body.DepOk dependency waiter commit → ⊥)
    → handled top me n a from b ≡ quiet n a
unheard top me n a from (body.Yes t) own x1 x2 x3 x4 x5 x6 x7 x8 x9 x10 = absurd (x1 t refl)
unheard top me n a from (body.Commit t commit stamp) own x1 x2 x3 x4 x5 x6 x7 x8 x9 x10 = absurd (x2 t commit stamp refl)
unheard top me n a from (body.At t commit stamp) own x1 x2 x3 x4 x5 x6 x7 x8 x9 x10 = absurd (x3 t commit stamp refl)
unheard top me n a from (body.NotBy t time) own x1 x2 x3 x4 x5 x6 x7 x8 x9 x10 = absurd (x4 t time refl)
unheard top me n a from (body.Check t time) own x1 x2 x3 x4 x5 x6 x7 x8 x9 x10 = absurd (x5 t time refl)
unheard top me n a from (body.Read number read) own x1 x2 x3 x4 x5 x6 x7 x8 x9 x10 = absurd (x6 number read refl)
unheard top me n a from (body.Notify t) own x1 x2 x3 x4 x5 x6 x7 x8 x9 x10 = absurd (x7 t refl)
unheard top me n a from (body.PrepareRemote t) own x1 x2 x3 x4 x5 x6 x7 x8 x9 x10 = absurd (x8 t refl)
unheard top me n a from (body.DepCheck dependency waiter) own x1 x2 x3 x4 x5 x6 x7 x8 x9 x10 = absurd (x9 dependency waiter refl)
unheard top me n a from (body.DepOk dependency waiter commit) own x1 x2 x3 x4 x5 x6 x7 x8 x9 x10 = absurd (x10 dependency waiter commit refl)
unheard top me n a from (body.Begin t rows cohorts dependencies) own x1 x2 x3 x4 x5 x6 x7 x8 x9 x10 = absurd (cc)
unheard top me n a from (body.Prepare t rows coordinator) own x1 x2 x3 x4 x5 x6 x7 x8 x9 x10 = absurd (cc)
unheard top me n a from (body.ReadAt number time read) own x1 x2 x3 x4 x5 x6 x7 x8 x9 x10 = absurd (cc)
unheard top me n a from (body.ReplBegin cohorts t rows stamp dependencies) own x1 x2 x3 x4 x5 x6 x7 x8 x9 x10 = absurd (cc)
unheard top me n a from (body.ReplPart t rows stamp coordinator) own x1 x2 x3 x4 x5 x6 x7 x8 x9 x10 = absurd (cc)
unheard top me n a from (body.Done t commit stamp) own x1 x2 x3 x4 x5 x6 x7 x8 x9 x10 = refl
unheard top me n a from (body.PartNow number rows) own x1 x2 x3 x4 x5 x6 x7 x8 x9 x10 = refl
unheard top me n a from (body.PartAt number time answer) own x1 x2 x3 x4 x5 x6 x7 x8 x9 x10 = refl
