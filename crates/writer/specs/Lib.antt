pub mod Certificate
pub mod Answer
pub mod Inner
