pub mod Places
pub mod Reasons
