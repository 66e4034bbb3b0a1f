pub mod Sheet
pub mod SheetLaws
pub mod Witness
