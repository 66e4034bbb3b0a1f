pub mod ClassNumber
pub mod ClassTable
