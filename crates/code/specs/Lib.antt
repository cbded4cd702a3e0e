pub mod Postfix
pub mod Operators
pub mod Words
pub mod Written
pub mod Room
