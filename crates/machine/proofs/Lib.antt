pub mod Cases
pub mod Fields
pub mod Steps
pub mod Runs
pub mod Wide
