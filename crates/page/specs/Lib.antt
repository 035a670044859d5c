pub mod Added
pub mod Field
