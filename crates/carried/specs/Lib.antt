pub mod Image
pub mod Convention
pub mod Carried
pub mod Calls
