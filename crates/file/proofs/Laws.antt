pub mod Read
pub mod Exact
pub mod Numbered
pub mod Within
