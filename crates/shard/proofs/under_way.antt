-- What is under way in code, put in order, is what the machine has not finished.
pub mod FirstHeld
pub mod HeldParts
pub mod TxnsListed
pub mod UnfinishedParts
