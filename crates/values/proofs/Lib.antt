pub mod CellLaws
pub mod Digits
