pub mod WordsIn
pub mod Stores
pub mod FirstWrong
pub mod Link
