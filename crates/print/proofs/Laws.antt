pub mod PrintedLaws
pub mod ValueLaws
pub mod ShortLaws
