pub mod InOrder
pub mod Rules
