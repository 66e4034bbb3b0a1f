pub mod Fields
pub mod Cases
