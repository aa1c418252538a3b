pub mod Lookups
pub mod Layouts
pub mod Listings
