-- Since when a row is valid: its earliest valid time, and that it is right from then on.
pub mod Latest
pub mod Ranged
pub mod EvtBelow
pub mod FromEvt
