-- A drain ends: each delivery brings a run nearer to quiet.
pub mod Costs
pub mod NewDecisions
pub mod DecisionDescents
pub mod Descents
pub mod SessionDescents
pub mod Caps
pub mod EventCounts
pub mod Deliveries
pub mod DrainEnds
