pub mod Taken
pub mod Listed
pub mod Stepped
