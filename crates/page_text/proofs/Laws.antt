pub mod NodeNameLaws
pub mod RefusalBoundsLaws
pub mod PassLaws
pub mod ReportLaws
pub mod ShortLaws
pub mod PageLaws
pub mod CauseLaws
