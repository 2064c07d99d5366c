-- What is seen of a row in a store: by names and by ranges, by walks that a count ends, and put together as a part.
pub mod Sights
pub mod View
pub mod Walks
pub mod WalkedParts
pub mod Strikes
pub mod Struck
pub mod Slices
pub mod Gathered
pub mod Gatherings
pub mod Assembled
pub mod PartAt
