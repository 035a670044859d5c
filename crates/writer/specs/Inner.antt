pub mod Rows
pub mod Cells
pub mod Solved
pub mod Records
