pub mod Places
pub mod Ring
pub mod Hashes
