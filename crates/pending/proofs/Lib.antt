pub mod Maps
pub mod Times
pub mod MarkedRows
pub mod BelowRows
pub mod ClearedRows
