pub mod Announcing
pub mod CohortBytes
pub mod Greatest
pub mod Numbering
pub mod Places
pub mod RowParts
pub mod WritersInOrder
