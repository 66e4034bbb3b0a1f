pub mod BufferLaws
pub mod FoundLaws
pub mod ValueLaws
