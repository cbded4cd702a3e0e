pub mod Quotes
pub mod Lines
