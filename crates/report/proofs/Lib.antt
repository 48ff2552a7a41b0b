pub mod Fits
pub mod Limit
