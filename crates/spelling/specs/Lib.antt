pub mod Options
pub mod Spelling
pub mod Word
