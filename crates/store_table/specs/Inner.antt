pub mod Bounds
pub mod Index
pub mod ListBytes
