pub mod Said
pub mod Side
pub mod Channel
