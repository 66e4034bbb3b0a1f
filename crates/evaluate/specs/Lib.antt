pub mod Evict
pub mod Inner
