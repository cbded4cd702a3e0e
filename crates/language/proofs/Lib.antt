pub mod Cutting
pub mod Heads
pub mod Wholes
pub mod Walked
