pub mod Audit
pub mod Laid
pub mod Misreads
