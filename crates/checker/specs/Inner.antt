pub mod Holding
pub mod FileNet
pub mod TablesAs
pub mod Faults
