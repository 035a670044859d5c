pub mod Least
pub mod LeastFrom
pub mod Table
pub mod Among
