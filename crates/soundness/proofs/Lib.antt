pub mod Prefixes
pub mod Accepted
