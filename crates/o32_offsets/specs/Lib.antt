pub mod Offsets
pub mod Laying
