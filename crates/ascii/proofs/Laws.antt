pub mod LettersLaws
pub mod TestLaws
pub mod EqualLaws
