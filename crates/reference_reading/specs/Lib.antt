pub mod Faults
pub mod Lines
pub mod Spans
pub mod Texts
