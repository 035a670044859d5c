pub mod InLane
pub mod LaneSearch
pub mod KeptControls
