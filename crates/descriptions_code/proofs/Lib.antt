pub mod KindSearch
pub mod Numbers
pub mod Reading
pub mod Members
pub mod Whole
