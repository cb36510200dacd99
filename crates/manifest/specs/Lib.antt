pub mod Manifest
pub mod Places
pub mod Commit
