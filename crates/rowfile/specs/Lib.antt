pub mod Entries
pub mod Files
pub mod Lawfulness
pub mod Listings
