pub mod Audits
pub mod ToldMore
pub mod AskedMore
pub mod Exact
pub mod Loading
pub mod Faulty
pub mod Shown
