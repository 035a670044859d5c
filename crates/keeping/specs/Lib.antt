pub mod RankList
pub mod Unranked
pub mod KeptControls
pub mod Inner
