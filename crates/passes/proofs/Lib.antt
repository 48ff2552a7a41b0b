pub mod Premises
pub mod Walking
pub mod Ahead
pub mod Filling
pub mod Reading
pub mod Answers
