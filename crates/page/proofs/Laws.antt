pub mod Added
pub mod Line
pub mod Fit
