-- What is seen where one row is laid over another: a part that is going to be applied, over the store.
pub mod MergeSteps
pub mod Merged
pub mod ReadWith
