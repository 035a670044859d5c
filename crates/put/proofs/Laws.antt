pub mod Gap
pub mod Gapped
pub mod Head
pub mod Part
pub mod PackedBit
pub mod Laid
