pub mod Notation
pub mod Trials
