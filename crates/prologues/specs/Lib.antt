pub mod Verdict
pub mod Checking
pub mod Prologues
