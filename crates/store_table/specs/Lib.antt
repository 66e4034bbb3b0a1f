pub mod Names
pub mod Stores
pub mod TableBytes
pub mod Inner
