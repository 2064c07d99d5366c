-- Lists: what they contain, their order, and what is found in them.
pub mod Lists
pub mod Ascending
pub mod FoundParts
