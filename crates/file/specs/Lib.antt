pub mod CircuitIn
pub mod WriterRow
