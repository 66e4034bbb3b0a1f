pub mod Check
pub mod Guarantee
pub mod Inner
pub mod Verdict
