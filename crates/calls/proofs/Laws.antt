pub mod BracketLaws
pub mod CountLaws
