pub mod Token
pub mod Inner
