pub mod Bounds
pub mod Demand
