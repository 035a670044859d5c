pub mod Unseen
pub mod Kept
pub mod Visited
pub mod FitsMarked
