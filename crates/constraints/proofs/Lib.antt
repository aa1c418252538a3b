pub mod Moving
pub mod Reordering
