pub mod Leaves
pub mod EncodedAt
pub mod Valid
pub mod Subtree
