pub mod ArgumentLaws
pub mod MeasureLaws
pub mod OperandLaws
pub mod PrimaryLaws
