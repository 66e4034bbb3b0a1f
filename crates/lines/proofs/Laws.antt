pub mod LinesLaws
pub mod CauseLaws
