pub mod Table
pub mod Sets
pub mod Expanding
pub mod Carrying
