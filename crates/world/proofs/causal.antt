-- What is before an operation is committed before it, in every data centre, and sessions keep that where they move.
pub mod Causal
pub mod CausalKept
pub mod CausalRuns
pub mod Homes
pub mod HomesThere
pub mod Pasts
pub mod PastsDecided
