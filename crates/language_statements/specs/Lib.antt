pub mod Lists
pub mod Items
pub mod Shorter
pub mod Statements
