pub mod Faults
pub mod Counts
pub mod Lengths
pub mod Empty
