pub mod Valuations
pub mod Runs
