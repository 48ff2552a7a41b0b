pub mod Plans
pub mod Pair
