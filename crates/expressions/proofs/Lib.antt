pub mod Stacked
pub mod Rows
pub mod Means
