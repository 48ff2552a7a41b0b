pub mod Memory
pub mod Marker
pub mod Bodies
pub mod Agreeing
pub mod Refusals
pub mod Theorem
pub mod Cases
