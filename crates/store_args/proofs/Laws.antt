pub mod ArgumentsLaws
pub mod ColonLaws
pub mod SplitLaws
