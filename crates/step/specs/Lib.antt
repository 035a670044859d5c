pub mod Value
pub mod Truths
pub mod NextIn
pub mod Step
pub mod Defined
pub mod Settled
