pub mod Words
pub mod Decoded
