pub mod Format
pub mod Hint
pub mod Note
