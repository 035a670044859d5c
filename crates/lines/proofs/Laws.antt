pub mod FoundLine
pub mod HeaderLine
pub mod Missing
pub mod SymbolHere
pub mod Decided
