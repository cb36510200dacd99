pub mod Planned
pub mod Waits
