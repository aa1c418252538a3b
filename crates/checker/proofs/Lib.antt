pub mod Completing
pub mod Taking
pub mod Performing
pub mod Replaying
