pub mod Marks
pub mod Plain
pub mod Single
pub mod Alike
pub mod Holding
pub mod Twins
pub mod Carrying
