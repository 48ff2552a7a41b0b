pub mod Passing
pub mod Answers
