pub mod Storing
pub mod Comparing
pub mod Answers
