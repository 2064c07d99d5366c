pub mod Same
pub mod NormalForms
pub mod Stamps
pub mod Oks
pub mod WrongReads
pub mod Counted
