pub mod lists
pub mod knowing
pub mod steps
pub mod right
pub mod in_code
pub mod under_way
pub mod worked
