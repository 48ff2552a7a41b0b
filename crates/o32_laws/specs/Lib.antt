pub mod Carrying
pub mod Nothing
pub mod Refusing
pub mod Groups
pub mod Demand
pub mod Fitting
