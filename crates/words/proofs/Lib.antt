pub mod Bytes
pub mod Promotion
pub mod Impossible
