pub mod InLane
