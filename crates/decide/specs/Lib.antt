pub mod Tests
pub mod Decide
pub mod Inner
