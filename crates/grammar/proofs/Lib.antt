pub mod Tags
pub mod Laws
