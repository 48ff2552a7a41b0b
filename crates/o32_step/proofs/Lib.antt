pub mod Returns
pub mod Taken
pub mod Ahead
