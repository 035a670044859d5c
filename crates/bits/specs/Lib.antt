pub mod Digits
pub mod Bit
pub mod ByteBit
pub mod BitBytes
pub mod Packed
pub mod Bytes
pub mod Wrote
pub mod InTurn
