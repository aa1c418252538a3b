pub mod Places
pub mod Admitted
