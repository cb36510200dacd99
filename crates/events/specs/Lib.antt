pub mod Events
pub mod Notes
