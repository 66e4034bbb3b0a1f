pub mod Duration
pub mod Inner
