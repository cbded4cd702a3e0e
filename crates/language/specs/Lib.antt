pub mod Lines
pub mod Faults
pub mod Questions
pub mod Walks
