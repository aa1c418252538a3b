pub mod Claims
pub mod Kinds
pub mod Landings
pub mod Mutual
