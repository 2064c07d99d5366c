-- Lists and maps: what they contain, ends of ranges of names, and what comes before and after a name.
pub mod Lists
pub mod Maps
pub mod Bounds
pub mod CameTo
pub mod Counts
