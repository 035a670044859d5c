pub mod FilePrinted
pub mod Inner
