pub mod TextLaws
pub mod SearchLaws
pub mod WrittenLaws
pub mod AsciiLaws
