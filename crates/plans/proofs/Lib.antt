pub mod Entries
pub mod Placements
pub mod Planned
pub mod Refusals
pub mod Theorem
pub mod Cases
