pub mod Image
pub mod Low
pub mod Floats
pub mod Arguments
