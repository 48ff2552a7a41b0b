pub mod Code
pub mod Areas
pub mod Longest
