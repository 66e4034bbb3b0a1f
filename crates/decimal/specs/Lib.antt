pub mod Decimal
pub mod Count
pub mod Digits
