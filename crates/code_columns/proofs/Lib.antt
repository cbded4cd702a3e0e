pub mod Names
pub mod ProjectedCode
pub mod TypedNames
