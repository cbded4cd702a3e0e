pub mod Written
pub mod InWords
pub mod ColIndex
