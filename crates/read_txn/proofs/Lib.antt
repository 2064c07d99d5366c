pub mod Steps
pub mod RowsHeard
pub mod LateKeys
pub mod AskedAgain
pub mod Ends
pub mod Accepted
