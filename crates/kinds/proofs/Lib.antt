pub mod KindFacts
pub mod Structures
