pub mod Offsets
pub mod Laying
pub mod Cases
