pub mod Line
pub mod Listing
pub mod Solved
pub mod Front
pub mod Place
pub mod Longest
