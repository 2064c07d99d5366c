pub mod lists
pub mod newest
pub mod times
pub mod seen
pub mod laid_over
pub mod applied
