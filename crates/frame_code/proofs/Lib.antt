pub mod Bytes
pub mod Answers
pub mod Longest
pub mod Link
