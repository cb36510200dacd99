pub mod Flaws
pub mod Names
