pub mod Ordered
pub mod Txns
pub mod DepOks
pub mod Remembered
pub mod KeptAskers
pub mod Left
