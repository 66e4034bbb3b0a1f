pub mod By
pub mod Known
