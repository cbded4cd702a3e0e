pub mod Stacked
pub mod Items
