pub mod PlaceLaws
pub mod AnswerLaws
pub mod DecideLaws
pub mod ReadDecideLaws
pub mod WaitingLaws
pub mod TestsLaws
