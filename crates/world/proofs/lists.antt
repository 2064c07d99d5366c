-- Lists: membership, pairs of places, sums, one place replaced.
pub mod Members
pub mod Pairs
pub mod Totals
pub mod Replacing
pub mod Marking
