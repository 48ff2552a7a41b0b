pub mod Layout
pub mod Masks
pub mod Frame
pub mod Largest
pub mod Words
pub mod Keeping
pub mod GlobalPointer
