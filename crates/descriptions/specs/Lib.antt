pub mod Structures
pub mod Trees
pub mod Spelling
pub mod Describing
pub mod Beginnings
pub mod Descriptions
