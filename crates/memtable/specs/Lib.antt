pub mod Words
pub mod Loops
pub mod Arena
pub mod Index
pub mod Memtable
pub mod Holds
