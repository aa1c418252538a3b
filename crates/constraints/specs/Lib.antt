pub mod Schedules
pub mod Constraints
pub mod Faults
pub mod Order
pub mod Texts
