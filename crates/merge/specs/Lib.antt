pub mod Choice
pub mod Stream
