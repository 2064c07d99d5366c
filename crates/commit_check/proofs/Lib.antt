pub mod Freed
pub mod LetGo
pub mod LeastMarks
pub mod SameRows
