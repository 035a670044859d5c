pub mod Plain
pub mod Stepped
pub mod Stored
pub mod Inner
