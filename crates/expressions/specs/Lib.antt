pub mod Algebra
pub mod Words
