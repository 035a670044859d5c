pub mod Printed
pub mod InTurn
