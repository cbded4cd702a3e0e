pub mod Stacked
pub mod Cells
