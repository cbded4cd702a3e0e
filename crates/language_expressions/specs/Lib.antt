pub mod Machine
pub mod Marks
pub mod Turns
pub mod Views
