pub mod Kinds
pub mod Layout
pub mod Encode
pub mod Decode
pub mod Inner
