pub mod PlaceLaws
pub mod CheckLaws
pub mod GradesLaws
pub mod GuaranteeLaws
pub mod KnownLaws
pub mod ListsLaws
pub mod SafetyLaws
pub mod UnknownLaws
