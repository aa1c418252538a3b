pub mod Claiming
pub mod Finding
pub mod Meanings
pub mod Verdicts
