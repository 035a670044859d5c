pub mod RegionByte
pub mod Verdict
