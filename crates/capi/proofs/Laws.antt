pub mod Meant
pub mod Counts
pub mod Part
pub mod Stored
pub mod Zero
