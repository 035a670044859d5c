pub mod Gap
pub mod Head
pub mod Inner
