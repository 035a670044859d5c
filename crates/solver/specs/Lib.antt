pub mod RankTable
pub mod Over
pub mod Solution
pub mod Inner
