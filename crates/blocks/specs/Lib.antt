pub mod Lane
pub mod Evaluated
