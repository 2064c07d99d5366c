pub mod Missing
pub mod Strangers
pub mod Txns
pub mod Notices
