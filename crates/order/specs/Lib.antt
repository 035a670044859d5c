pub mod Uses
pub mod Reaches
pub mod Placing
pub mod Ordered
pub mod Circle
pub mod Place
pub mod Answer
pub mod Inner
