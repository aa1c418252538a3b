pub mod Refusals
pub mod Instructions
pub mod Operands
pub mod Landings
