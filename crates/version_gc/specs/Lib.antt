pub mod Collection
pub mod RangeCollection
