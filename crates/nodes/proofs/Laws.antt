pub mod ArrayLaws
pub mod ChainLaws
pub mod ParseLaws
pub mod WriteLaws
