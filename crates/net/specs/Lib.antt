pub mod Net
pub mod Move
pub mod NetOf
pub mod InOrder
pub mod Sized
pub mod Made
pub mod Inner
