pub mod BytesLaws
pub mod ByteReadLaws
pub mod NumberWrittenLaws
