pub mod Seeking
pub mod Taking
pub mod Area
pub mod Answers
