pub mod Issues
pub mod Kept
