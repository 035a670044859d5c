pub mod Lane
pub mod Move
pub mod Evaluated
pub mod Putting
pub mod LookUp
pub mod Decided
