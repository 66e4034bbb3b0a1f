pub mod ForeignLaws
pub mod SignLaws
pub mod TokenLaws
