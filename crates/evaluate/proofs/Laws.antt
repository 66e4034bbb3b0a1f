pub mod ByLaws
pub mod JoinLaws
pub mod MeaningLaws
pub mod MonotoneLaws
pub mod SubtreeLaws
pub mod SaidLaws
