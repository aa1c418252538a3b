pub mod Slots
pub mod Sums
pub mod Finding
pub mod Longest
