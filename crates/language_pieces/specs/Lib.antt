pub mod Pieces
pub mod Views
pub mod Literals
pub mod Faults
