pub mod Said
pub mod FieldsAgain
pub mod BodiesAgain
pub mod Written
pub mod Listed
pub mod FieldsTaken
pub mod BodiesTaken
