pub mod Headed
pub mod Kinds
pub mod LinedAs
pub mod Named
pub mod SymboledAs
