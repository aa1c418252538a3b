pub mod Search
pub mod Parts
