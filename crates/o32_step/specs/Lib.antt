pub mod Recorded
pub mod Records
