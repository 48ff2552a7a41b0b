pub mod Planning
pub mod Answers
