pub mod RegionTable
