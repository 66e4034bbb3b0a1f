pub mod Rules
pub mod Starts
