pub mod DecimalLaws
pub mod CountLaws
pub mod DigitsLaws
