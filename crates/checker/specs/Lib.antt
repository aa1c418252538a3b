pub mod Stands
pub mod Replays
