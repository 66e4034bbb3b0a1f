pub mod PrintLaws
pub mod PiecesLaws
pub mod ChildrenLaws
pub mod PrependLaws
pub mod LengthLaws
