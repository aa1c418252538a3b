pub mod Deciding
pub mod Clashing
pub mod Landing
pub mod Running
pub mod Breaking
pub mod Placing
pub mod Answering
